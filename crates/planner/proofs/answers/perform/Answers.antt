use Rattle.std.proofs.Common.{refl}
use Rattle.planner.specs.declared.commands.Command.TheVariants as commands
use Rattle.planner.proofs.GivenAnswers.{Answers-made}
use Rattle.planner.proofs.answers.perform.Goals as goal

pub returns-in_ok-generate-in-Gen : goal.returns-in_ok-generate-in-Gen
returns-in_ok-generate-in-Gen g c =
    rw c.in-Gen.is (Answers-made (commands.Gen c.in-Gen.number) _ _ refl c.requires.unended c.in_ok-generate-in-Gen.ensures)

pub returns-in_ok-trial-in-Trial : goal.returns-in_ok-trial-in-Trial
returns-in_ok-trial-in-Trial g c =
    rw c.in-Trial.is (Answers-made (commands.Trial c.in-Trial.number) _ _ refl c.requires.unended c.in_ok-trial-in-Trial.ensures)
