use Rattle.planner.proofs.Successes.{ReportsScene-textbook}
use Rattle.planner.proofs.answers.trial.Goals as goal

pub returns : goal.returns
returns c =
    let run = c.in_ok-grown.ensures in
    record {
      scene = c.in_ok-problem.problem.task.scene;
      of_command = rw c.in_ok-problem.ensures c.in_ok-scene.ensures.scene;
      start = λ planned. c.in_ok-problem.problem.start;
      meaning =
          ReportsScene-textbook _ _ c.in_ok-grown.grown _ _ run.scene c.in_ok-summary_of.ensures.reported run.run c.in_ok-summary_of.ensures.alone;
    }
