use Rattle.planner.proofs.Words.{refl, sym, ap, ◌∙◌, length, mark_points}
use Rattle.planner.specs.declared.commands.Command.TheVariants as commands
use Rattle.planner.proofs.GivenAnswers.{Answers-success, Answers-no_memory}
use Rattle.planner.proofs.Successes.{ReportsGrown-of_scene}
use Rattle.planner.proofs.answers.plan_by_slices.Goals as goal

pub returns-in_err-finished : goal.returns-in_err-finished
returns-in_err-finished g c =
    Answers-no_memory (commands.Anytime c.args.workers c.args.slice) _ _ _ refl c.in_ok-problem.ensures.within
    c.in_ok-problem.ensures.scene _ c.from_residual-in_err-finished.ensures.1

pub returns-in_err-better_report_of : goal.returns-in_err-better_report_of
returns-in_err-better_report_of g c =
    Answers-no_memory (commands.Anytime c.args.workers c.args.slice) _ _ _ refl c.in_ok-problem.ensures.within
    c.in_ok-problem.ensures.scene _ c.from_residual-in_err-better_report_of.ensures.1

pub better_report_of-requires-clause-all_marks : goal.better_report_of-requires-clause-all_marks
better_report_of-requires-clause-all_marks g c =
    c.in_ok-finished.ensures.all_marks ∙ ap (λ scene. length (mark_points scene)) (sym c.in_ok-finished.ensures.scene)

pub returns : goal.returns
returns g c =
    let scene = c.in_ok-problem.problem.task.scene in
    let has = c.in_ok-problem.ensures.scene in
    let run = c.in_ok-finished.ensures in
    let report = c.in_ok-better_report_of.ensures in
    Answers-success (commands.Anytime c.args.workers c.args.slice) _ _ scene refl c.in_ok-problem.ensures.within has _ (record {
      scene = scene;
      of_command = has.spelled;
      start = λ planned. c.in_ok-problem.problem.start;
      meaning = record {
        grown = c.in_ok-finished.finished.run;
        items = c.in_ok-finished.finished.better;
        reported = ReportsGrown-of_scene _ _ _ _ _ run.scene report.reported;
        by_workers = run.workers;
        textbook = run.textbook;
        given = report.better;
        better = run.better;
        alone = report.alone;
      };
    })
