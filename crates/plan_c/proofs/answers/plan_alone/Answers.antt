use Rattle.std.proofs.Common.{inr}
use Rattle.planner.specs.declared.commands.Command.TheVariants as commands
use Rattle.planner.specs.declared.refusals.Refusal.TheVariants as refusals
use Rattle.plan_c.proofs.GivenCalls.{AnswersText-refused, ReportsPlan-alone}
use Rattle.plan_c.proofs.answers.plan_alone.Goals as goal

pub returns-in_err-problem : goal.returns-in_err-problem
returns-in_err-problem c = AnswersText-refused (commands.Plan 1 c.args.full) _ _ _ c.from_residual.ensures.1 c.in_err-problem.ensures.refusal

pub returns-in_err-grown : goal.returns-in_err-grown
returns-in_err-grown c =
    AnswersText-refused (commands.Plan 1 c.args.full) _ _ refusals.Memory c.from_residual-in_err-grown.ensures.1 (inr (c.in_ok-problem.ensures.short, tt))

pub returns-in_err-report_of : goal.returns-in_err-report_of
returns-in_err-report_of c =
    AnswersText-refused (commands.Plan 1 c.args.full) _ _ refusals.Memory c.from_residual-in_err-report_of.ensures.1 (inr (c.in_ok-problem.ensures.short, tt))

pub returns : goal.returns
returns c =
    let run = c.in_ok-grown.ensures in
    let reported = c.in_ok-report_of.ensures in
    record {
      success = record {
        scene = c.in_ok-problem.problem.task.scene;
        of_command = record { short = c.in_ok-problem.ensures.short; spelled = c.in_ok-problem.ensures.scene };
        start = λ planned. c.in_ok-problem.problem.start;
        meaning = ReportsPlan-alone _ _ c.in_ok-grown.grown _ _ run.scene run.worker run.textbook reported.reported reported.alone;
      };
      refusal = tt;
    }
