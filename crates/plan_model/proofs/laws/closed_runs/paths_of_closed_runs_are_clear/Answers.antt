use Rattle.plan_model.proofs.ClearPathLaws.{IsClearPath-ordered, IsClearPath-best}
use Rattle.plan_model.proofs.CountLaws.{numbers-closed}
use Rattle.plan_model.proofs.laws.closed_runs.paths_of_closed_runs_are_clear.Goals as goal

pub returns-clause-path : goal.returns-clause-path
returns-clause-path c = λ setup marks limit state closed. IsClearPath-ordered setup state closed.order

pub returns-clause-best : goal.returns-clause-best
returns-clause-best c =
    λ setup marks limit state closed scene. IsClearPath-best setup state closed.order scene limit (numbers-closed setup marks limit state closed)
