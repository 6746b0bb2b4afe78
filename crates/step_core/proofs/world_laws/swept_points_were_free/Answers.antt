use Rattle.step_core.proofs.Whole.Histories.{HasCome-linked, HasCome-other, WasFree-swept}
use Rattle.step_core.proofs.world_laws.swept_points_were_free.Goals as goal

pub returns-clause-swept : goal.returns-clause-swept
returns-clause-swept c = WasFree-swept

pub returns-clause-link : goal.returns-clause-link
returns-clause-link c = HasCome-linked

pub returns-clause-other : goal.returns-clause-other
returns-clause-other c = HasCome-other
