use Rattle.std.proofs.Common.{refl}
use Rattle.planner.specs.declared.commands.Command.TheVariants as commands
use Rattle.planner.proofs.GivenAnswers.{Answers-success, Answers-no_memory}
use Rattle.planner.proofs.Successes.{ReportsGrown-of_scene}
use Rattle.planner.proofs.answers.plan_smoothed.Goals as goal

pub returns-in_err-grown : goal.returns-in_err-grown
returns-in_err-grown g c =
    Answers-no_memory (commands.Smooth c.args.workers) _ _ _ refl c.in_ok-problem.ensures.within c.in_ok-problem.ensures.scene _
    c.from_residual-in_err-grown.ensures.1

pub returns-in_err-smoothed_report_of : goal.returns-in_err-smoothed_report_of
returns-in_err-smoothed_report_of g c =
    Answers-no_memory (commands.Smooth c.args.workers) _ _ _ refl c.in_ok-problem.ensures.within c.in_ok-problem.ensures.scene _
    c.from_residual-in_err-smoothed_report_of.ensures.1

pub returns : goal.returns
returns g c =
    let scene = c.in_ok-problem.problem.task.scene in
    let has = c.in_ok-problem.ensures.scene in
    let run = c.in_ok-grown.ensures in
    Answers-success (commands.Smooth c.args.workers) _ _ scene refl c.in_ok-problem.ensures.within has _ (record {
      scene = scene;
      of_command = has.spelled;
      start = λ planned. c.in_ok-problem.problem.start;
      meaning = record {
        grown = c.in_ok-grown.grown;
        reported = ReportsGrown-of_scene _ _ _ _ _ run.scene c.in_ok-smoothed_report_of.ensures.reported;
        by_workers = run.workers;
        textbook = run.textbook;
        alone = c.in_ok-smoothed_report_of.ensures.alone;
      };
    })
