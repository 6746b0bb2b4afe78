use Rattle.plan_model.proofs.SceneBatchLaws.{RefusesBatch-one_line, RefusesBatch-one_kind, SpellsBatch-not_refused}
use Rattle.plan_model.proofs.laws.scene_batches.batch_refusals_are_unique.Goals as goal

pub returns-clause-line : goal.returns-clause-line
returns-clause-line c = RefusesBatch-one_line

pub returns-clause-kind : goal.returns-clause-kind
returns-clause-kind c = RefusesBatch-one_kind

pub returns-clause-spelled : goal.returns-clause-spelled
returns-clause-spelled c = SpellsBatch-not_refused
