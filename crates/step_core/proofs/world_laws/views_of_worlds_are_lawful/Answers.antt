use Rattle.step_core.proofs.OneView.LaterViews.{IsLawfulView-world}
use Rattle.step_core.proofs.world_laws.views_of_worlds_are_lawful.Goals as goal

pub returns : goal.returns
returns c = λ now is. IsLawfulView-world now.run now.words now.views now.id now.view is.world is.at is.own
