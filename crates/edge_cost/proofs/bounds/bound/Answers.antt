use Rattle.edge_cost.proofs.Words.{◌≡◌, arith, ap, ◌∙◌, min, Goal, Point, squared_distance}
use Rattle.edge_cost.proofs.LeastEdges.{IsLeastOfFirst-next, bound_of-scanned}
use Rattle.edge_cost.proofs.bounds.bound.Goals as goal

pub loop-goal-preserved : goal.loop-goal-preserved
loop-goal-preserved c =
    let none : Goal = record { low = record { x = 0; y = 0 }; high = record { x = 0; y = 0 } } in
    let at : Point = c.nearest_in-in-loop-goal.result in
    let least : c.min-least.result ≡ min c.loop-goal.least (squared_distance c.args.p c.nearest_in-in-loop-goal.result) =
    c.min-least.ensures ∙ ap (min c.loop-goal.least) c.squared_distance.ensures.value in (
      rw least
          (IsLeastOfFirst-next c.args.goals.now c.args.p at c.loop-goal.goal-index none c.loop-goal.least c.loop-goal-test.true
          c.nearest_in-in-loop-goal.ensures.inside c.nearest_in-in-loop-goal.ensures.nearest c.loop-goal.invariant.0),
      omega (arith, c.min-least.ensures, c.loop-goal.invariant.1),
    )

pub overflow_add-result : goal.overflow_add-result
overflow_add-result c = omega (arith, c.cost_of_square.ensures.least.least 536870911, c.cost.ensures.bound, c.loop-goal.invariant.1)

pub returns-clause-value : goal.returns-clause-value
returns-clause-value c =
    let all = bound_of-scanned c.args.start c.args.goals.now c.args.p c.loop-goal.goal-index c.loop-goal.least (omega arith) c.loop-goal.invariant.0 in
    omega (arith, c.cost.ensures.value, c.cost_of_square.ensures.value, all)

pub returns-clause-bound : goal.returns-clause-bound
returns-clause-bound c = omega (arith, c.cost_of_square.ensures.least.least 536870911, c.cost.ensures.bound, c.loop-goal.invariant.1)
