use Rattle.planner.proofs.Words.{◌+◌, ◌*◌, ◌%◌, refl, arith, le-leb, mod_below, MOST_MARKS}
use Rattle.planner.proofs.GeneratedObstacles.{are_obstacles-generated}
use Rattle.planner.proofs.ClearStarts.{ClearAt-start}
use Rattle.planner.proofs.generated_scenes.gen_scene.Goals as goal

pub invariant_of-result-clause-obstacles_within : goal.invariant_of-result-clause-obstacles_within
invariant_of-result-clause-obstacles_within c = rw c.in_ok-obstacles.ensures (are_obstacles-generated c.args.number)

pub invariant_of-result-clause-goals_within : goal.invariant_of-result-clause-goals_within
invariant_of-result-clause-goals_within c = rw c.in_ok-goals.ensures refl

pub returns-clause-scene : goal.returns-clause-scene
returns-clause-scene c = record {
  version = refl;
  room = refl;
  body = c.in_ok-square_at.ensures;
  obstacles = c.in_ok-obstacles.ensures;
  clearance = refl;
  start = refl;
  goals = c.in_ok-goals.ensures;
  step = refl;
  gamma = refl;
  seed = c.from.ensures;
  strips = refl;
  informed = refl;
  plan = refl;
}

pub returns-clause-start : goal.returns-clause-start
returns-clause-start c = rw (c.in_ok-square_at.ensures, c.in_ok-obstacles.ensures) (ClearAt-start c.args.number)

pub invariant_of-result-clause-plan_within : goal.invariant_of-result-clause-plan_within
invariant_of-result-clause-plan_within c =
    let few = mod_below c.args.number 10 (omega arith) in le-leb (2000 * (1 + c.args.number % 10)) MOST_MARKS (omega arith)
