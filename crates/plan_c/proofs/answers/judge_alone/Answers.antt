use Rattle.std.proofs.Common.{inr}
use Rattle.planner.specs.declared.refusals.Refusal.TheVariants as refusals
use Rattle.plan_c.proofs.GivenCalls.{JudgesReport-refused}
use Rattle.plan_c.proofs.answers.judge_alone.Goals as goal

pub returns-in_err-problem : goal.returns-in_err-problem
returns-in_err-problem c =
    JudgesReport-refused _ _ _ _ c.from_residual.ensures.1 (inr (c.if-report-gt-MOST_REPORT_BYTES.false, c.in_err-problem.ensures.refusal))

pub returns-in_err-check_with : goal.returns-in_err-check_with
returns-in_err-check_with c =
    JudgesReport-refused _ _ _ refusals.Memory c.from_residual-in_err-check_with.ensures.1
    (inr (c.if-report-gt-MOST_REPORT_BYTES.false, inr (c.in_ok-problem.ensures.short, tt)))

pub returns : goal.returns
returns c = record {
  verdict = record {
    task = c.in_ok-problem.problem.task;
    short = c.in_ok-problem.ensures.short;
    spelled = c.in_ok-problem.ensures.scene;
    start = c.in_ok-problem.problem.start;
    judged = c.in_ok-check_with.ensures;
  };
  refusal = tt;
}
