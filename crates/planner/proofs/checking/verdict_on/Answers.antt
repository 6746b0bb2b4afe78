use Rattle.planner.proofs.Words.{arith, RefusesCheck}
use Rattle.planner.specs.declared.refusals.Refusal.TheVariants as refusals
use Rattle.planner.proofs.Causes.{IfErr-only}
use Rattle.planner.proofs.GivenChecks.{IsCutAtReport-short, RefusesCheck-front, RefusesCheck-whole, RefusesWithoutReport-read}
use Rattle.planner.proofs.checking.verdict_on.Goals as goal

pub problem_in-requires : goal.problem_in-requires
problem_in-requires c = let parts = IsCutAtReport-short _ _ _ c.in-Some.ensures.some in omega (arith, parts, c.requires)

pub check_with-requires-clause-short : goal.check_with-requires-clause-short
check_with-requires-clause-short c = let parts = IsCutAtReport-short _ _ _ c.in-Some.ensures.some in omega (arith, parts, c.requires)

-- no line is `report`, and the scene cannot be read
pub returns-in_err-missing_report-clause-refusal : goal.returns-in_err-missing_report-clause-refusal
returns-in_err-missing_report-clause-refusal c =
    IfErr-only c.from_residual.result _ (RefusesCheck c.args.text.now) c.from_residual.ensures.1
    (RefusesCheck-whole _ _ c.requires
    (RefusesWithoutReport-read _ _ c.in_default.ensures.none c.in_err-missing_report.ensures.fault))

-- or the line is missing
pub returns-in_default-clause-refusal : goal.returns-in_default-clause-refusal
returns-in_default-clause-refusal c = RefusesCheck-whole _ _ c.requires c.in_ok-missing_report.ensures.missing

pub returns-in_err-problem-clause-refusal : goal.returns-in_err-problem-clause-refusal
returns-in_err-problem-clause-refusal c =
    IfErr-only c.from_residual-in_err-problem.result _ (RefusesCheck c.args.text.now) c.from_residual-in_err-problem.ensures.1
    (RefusesCheck-front _ _ _ _ c.requires c.in-Some.ensures.some c.in_err-problem.ensures.refusal)

pub returns-in_err-verdict-clause-refusal : goal.returns-in_err-verdict-clause-refusal
returns-in_err-verdict-clause-refusal c =
    IfErr-only c.from_residual-in_err-verdict.result refusals.Memory (RefusesCheck c.args.text.now) c.from_residual-in_err-verdict.ensures.1 tt

pub returns-clause-verdict : goal.returns-clause-verdict
returns-clause-verdict c = record {
  front = c.in-Some.front.now;
  report = c.in-Some.report.now;
  cut = c.in-Some.ensures.some;
  task = c.in_ok-problem.problem.task;
  spelled = c.in_ok-problem.ensures.scene;
  start = c.in_ok-problem.problem.start;
  judged = c.in_ok-verdict.ensures;
}
