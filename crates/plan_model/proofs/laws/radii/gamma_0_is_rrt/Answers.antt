use Rattle.plan_model.proofs.GammaZero.{near_new-none}
use Rattle.plan_model.proofs.laws.radii.gamma_0_is_rrt.Goals as goal

pub returns : goal.returns
returns c = near_new-none
