use Rattle.step_core.proofs.OneView.LaterViews.{HasLooked-trans, IsLater-refl, IsLater-trans}
use Rattle.step_core.proofs.world_laws.steps_lead_to_later_views.Goals as goal

pub returns-clause-stay : goal.returns-clause-stay
returns-clause-stay c = IsLater-refl

pub returns-clause-go_on : goal.returns-clause-go_on
returns-clause-go_on c = IsLater-trans

pub returns-clause-looked : goal.returns-clause-looked
returns-clause-looked c = HasLooked-trans
