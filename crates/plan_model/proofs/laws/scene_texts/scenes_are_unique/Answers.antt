use Rattle.plan_model.proofs.SameScenes.{Spells-one_scene}
use Rattle.plan_model.proofs.laws.scene_texts.scenes_are_unique.Goals as goal

pub returns : goal.returns
returns c = Spells-one_scene
