use Rattle.plan_model.proofs.UniqueRuns.{IsTextbookRun-one_tree, IsTextbookRun-one_records}
use Rattle.plan_model.proofs.laws.runs.textbook_run_is_unique.Goals as goal

pub returns-clause-tree : goal.returns-clause-tree
returns-clause-tree c = IsTextbookRun-one_tree

pub returns-clause-records : goal.returns-clause-records
returns-clause-records c = IsTextbookRun-one_records
