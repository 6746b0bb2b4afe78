use Rattle.planner.specs.CheckedTexts.{RefusesSceneText}
use Rattle.planner.proofs.Causes.{IfErr-only, given_none}
use Rattle.planner.proofs.GivenChecks.{RefusesSceneText-read}
use Rattle.planner.proofs.checking.problem_in.Goals as goal

pub returns-in_err-scene-clause-refusal : goal.returns-in_err-scene-clause-refusal
returns-in_err-scene-clause-refusal c =
    IfErr-only c.from_residual.result _ (RefusesSceneText c.args.text.now) c.from_residual.ensures.1
    (RefusesSceneText-read c.args.text.now _ c.in_err-scene.ensures.fault)

pub returns-in_default-clause-refusal : goal.returns-in_default-clause-refusal
returns-in_default-clause-refusal c = record {
  scene = c.in_ok-scene.scene;
  spelled = c.in_ok-scene.ensures.scene;
  blocked = given_none _ _ c.in_default.is c.in_ok-problem.ensures.blocked;
}
