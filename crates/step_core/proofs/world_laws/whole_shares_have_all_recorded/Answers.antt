use Rattle.step_core.proofs.Whole.WholeCopies.{is_recorded-whole}
use Rattle.step_core.proofs.world_laws.whole_shares_have_all_recorded.Goals as goal

pub returns : goal.returns
returns c = λ now is. is_recorded-whole now.run now.words now.views now.id now.view is.world is.at
