use Rattle.plan_model.proofs.CostLaws.{cost_of-swap, cost_of-zero}
use Rattle.plan_model.proofs.TriangleLaw.{cost_of-triangle}
use Rattle.plan_model.proofs.laws.costs.costs_are_distances.Goals as goal

pub returns-clause-both_ways : goal.returns-clause-both_ways
returns-clause-both_ways c = cost_of-swap

pub returns-clause-apart : goal.returns-clause-apart
returns-clause-apart c = cost_of-zero

pub returns-clause-triangle : goal.returns-clause-triangle
returns-clause-triangle c = cost_of-triangle
