use Rattle.plan_model.proofs.GivenScenes.{decided}
use Rattle.plan_model.proofs.laws.scene_texts.each_text_is_decided.Goals as goal

pub returns : goal.returns
returns c = decided
