use Rattle.plan_model.proofs.SceneBatchLaws.{batch_decided}
use Rattle.plan_model.proofs.laws.scene_batches.each_batch_is_decided.Goals as goal

pub returns : goal.returns
returns c = batch_decided
