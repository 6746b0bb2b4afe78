use Rattle.std.proofs.Common.{ℕ, ◌*◌, arith, ap}
use Rattle.plan_model.specs.Geometry.Lengths.{root_ceiling}
use Rattle.edge_cost.proofs.CostBounds.{cost_of-low}
use Rattle.edge_cost.proofs.costs.cost.Goals as goal

pub returns-clause-bound : goal.returns-clause-bound
returns-clause-bound c =
    omega (
      arith,
      c.cost_of_square.ensures.value,
      ap (λ (d : ℕ). root_ceiling (65536 * d)) c.squared_distance.ensures.value,
      cost_of-low c.args.a c.args.b c.requires.from c.requires.to,
    )
