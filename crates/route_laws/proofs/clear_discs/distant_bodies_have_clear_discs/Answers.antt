use Rattle.route_laws.specs.Routes.{HasClearDisc, KeepsBodyFar}
use Rattle.route_laws.proofs.FollowedBodies.{HasClearDisc-far}
use Rattle.route_laws.proofs.FollowedDiscs.{IsRoute-weaker}
use Rattle.route_laws.proofs.clear_discs.distant_bodies_have_clear_discs.Goals as goal

pub returns : goal.returns
returns c = record {
  link = HasClearDisc-far;
  route = λ setup marks numbers. IsRoute-weaker setup marks numbers (KeepsBodyFar setup) (HasClearDisc setup) (HasClearDisc-far setup);
}
