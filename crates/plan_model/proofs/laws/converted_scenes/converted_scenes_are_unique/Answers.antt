use Rattle.plan_model.proofs.SameScenes.{IsConverted-alone, IsConverted-itself}
use Rattle.plan_model.proofs.laws.converted_scenes.converted_scenes_are_unique.Goals as goal

pub returns-clause-alone : goal.returns-clause-alone
returns-clause-alone c = IsConverted-alone

pub returns-clause-itself : goal.returns-clause-itself
returns-clause-itself c = IsConverted-itself
