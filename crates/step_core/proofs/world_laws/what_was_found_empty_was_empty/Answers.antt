use Rattle.step_core.proofs.Whole.Histories.{IsFree-found, IsFree-since, LeadsTo-ends, empty-after, empty-before, filled-not_found}
use Rattle.step_core.proofs.world_laws.what_was_found_empty_was_empty.Goals as goal

pub returns-clause-before : goal.returns-clause-before
returns-clause-before c = λ now is after then next later. empty-before now.run now.words after now.views now.id now.view then is.world is.at next later is.own

pub returns-clause-after : goal.returns-clause-after
returns-clause-after c = λ now is after then next. empty-after now.run now.words after now.views now.id now.view then is.world is.at next is.own

pub returns-clause-stale : goal.returns-clause-stale
returns-clause-stale c = λ now is. filled-not_found now.run now.words now.views now.id now.view is.world is.at is.own

pub returns-clause-no_node : goal.returns-clause-no_node
returns-clause-no_node c = IsFree-since

pub returns-clause-by_then : goal.returns-clause-by_then
returns-clause-by_then c = IsFree-found

pub returns-clause-swept : goal.returns-clause-swept
returns-clause-swept c = LeadsTo-ends
