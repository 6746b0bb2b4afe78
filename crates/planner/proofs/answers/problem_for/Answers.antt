use Rattle.planner.proofs.Words.{refl, IsCaused}
use Rattle.planner.specs.declared.refusals.Refusal.TheVariants as refusals
use Rattle.planner.proofs.Causes.{StartBlocked-caused, IfErr-only, given_none}
use Rattle.planner.proofs.answers.problem_for.Goals as goal

pub returns-in_default-clause-refusal : goal.returns-in_default-clause-refusal
returns-in_default-clause-refusal g c =
    StartBlocked-caused c.args.command _ _ _ c.requires.reads c.requires.plans c.in_ok-scene.ensures.scene
    (given_none _ _ c.in_default.is c.in_ok-problem.ensures.blocked)

pub returns-in_err-problem-clause-refusal : goal.returns-in_err-problem-clause-refusal
returns-in_err-problem-clause-refusal g c =
    IfErr-only c.from_residual-in_err-problem.result refusals.Memory (IsCaused _ _ _) c.from_residual-in_err-problem.ensures.1
    (refl, c.in_ok-scene.ensures.scene.read.no_fault)
