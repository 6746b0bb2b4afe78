use Rattle.planner.proofs.Words.{Err, refl, sym, ap, subst, Scene, IsTwin}
use Rattle.planner.specs.declared.commands.Command.TheVariants as commands
use Rattle.planner.proofs.GivenAnswers.{Answers-success, Answers-no_memory, Answers-twin_fault}
use Rattle.planner.proofs.Successes.{ReportsTwin-of_scene}
use Rattle.planner.proofs.answers.plan_twin.Goals as goal

pub twin_report_of-requires : goal.twin_report_of-requires
twin_report_of-requires g c =
    let both = c.in_ok-both.both in
    let twin = c.in_ok-both.ensures.twin in
    (c.args.workers, subst (λ (s : Scene). IsTwin c.args.workers s both) (sym twin.from_start.scene_is) twin)

pub returns-in_err-both : goal.returns-in_err-both
returns-in_err-both g c =
    Answers-twin_fault (commands.Twin c.args.workers) _ _ _ refl c.in_ok-problem.ensures.within c.in_ok-problem.ensures.scene
    c.in_err-both.field-0.0 _ refl c.in_ok-problem.problem.start (λ is. c.in_err-both.ensures.blocked (ap Err is))
    c.from_residual-in_err-both.ensures.1

pub returns-in_err-twin_report_of : goal.returns-in_err-twin_report_of
returns-in_err-twin_report_of g c =
    Answers-no_memory (commands.Twin c.args.workers) _ _ _ refl c.in_ok-problem.ensures.within c.in_ok-problem.ensures.scene _
    c.from_residual-in_err-twin_report_of.ensures.1

pub returns : goal.returns
returns g c =
    let scene = c.in_ok-problem.problem.task.scene in
    let has = c.in_ok-problem.ensures.scene in
    let both = c.in_ok-both.both in
    let workers = c.args.workers in
    let twin = c.in_ok-both.ensures.twin in
    let own = subst (λ (s : Scene). IsTwin workers s both) (sym twin.from_start.scene_is) twin in
    Answers-success (commands.Twin c.args.workers) _ _ scene refl c.in_ok-problem.ensures.within has _ (record {
      scene = scene;
      of_command = has.spelled;
      start = λ planned. c.in_ok-problem.problem.start;
      meaning = ReportsTwin-of_scene workers _ _ _ _ twin.from_start.scene_is (c.in_ok-twin_report_of.ensures workers own);
    })
