use Rattle.step_core.proofs.Whole.WholeCopies.{best-whole, records-whole, sees-whole}
use Rattle.step_core.proofs.world_laws.whole_shares_see_all_words.Goals as goal

pub returns-clause-words : goal.returns-clause-words
returns-clause-words c = λ now is. sees-whole now.run now.words now.views now.id now.view is.world is.at

pub returns-clause-best : goal.returns-clause-best
returns-clause-best c = λ now is. best-whole now.run now.words now.views now.id now.view is.world is.at

pub returns-clause-records : goal.returns-clause-records
returns-clause-records c = λ now is. records-whole now.run now.words now.views now.id now.view is.world is.at
