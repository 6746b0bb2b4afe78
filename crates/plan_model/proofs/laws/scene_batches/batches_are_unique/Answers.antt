use Rattle.plan_model.proofs.SceneBatchLaws.{SpellsBatch-one_batch}
use Rattle.plan_model.proofs.laws.scene_batches.batches_are_unique.Goals as goal

pub returns : goal.returns
returns c = SpellsBatch-one_batch
