use Rattle.route_laws.proofs.Words.{HasClearDisc, IsOpenLink}
use Rattle.route_laws.proofs.FollowedDiscs.{IsOpenLink-clear_disc, IsRoute-weaker}
use Rattle.route_laws.proofs.clear_discs.clear_discs_open_links.Goals as goal

pub returns : goal.returns
returns c = record {
  link = IsOpenLink-clear_disc;
  route = λ setup marks numbers. IsRoute-weaker setup marks numbers (HasClearDisc setup) (IsOpenLink setup) (IsOpenLink-clear_disc setup);
}
