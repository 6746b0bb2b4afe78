use Rattle.plan_model.proofs.ClosedLaws.{KeepsFirstCosts-closed}
use Rattle.plan_model.proofs.OrderLaws.{KeepsOrder-falls}
use Rattle.plan_model.proofs.laws.closed_runs.costs_of_closed_runs_fall.Goals as goal

pub returns-clause-falls : goal.returns-clause-falls
returns-clause-falls c = λ setup marks limit state closed n h. KeepsOrder-falls setup state closed.order n h

pub returns-clause-first_costs : goal.returns-clause-first_costs
returns-clause-first_costs c = KeepsFirstCosts-closed
