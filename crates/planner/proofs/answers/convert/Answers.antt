use Rattle.planner.proofs.Words.{refl, false≢true}
use Rattle.planner.specs.declared.commands.Command.TheVariants as commands
use Rattle.planner.proofs.GivenAnswers.{Answers-success}
use Rattle.planner.proofs.answers.convert.Goals as goal

pub returns : goal.returns
returns g c =
    let scene = c.in_ok-scene.scene in
    let has = c.in_ok-scene.ensures.scene in
    Answers-success commands.Convert _ _ scene refl c.in_ok-scene.ensures.within has _ (record {
      scene = scene;
      of_command = has.spelled;
      start = λ planned. absurd (false≢true planned);
      meaning = record { converted = c.as_version_2-converted.result; of_scene = c.as_version_2-converted.ensures; written = c.in_ok-text_of.ensures };
    })
