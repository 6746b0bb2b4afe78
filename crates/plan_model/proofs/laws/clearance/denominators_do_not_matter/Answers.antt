use Rattle.plan_model.proofs.RationalPoints.{IsSamePoint-sym, IsSamePoint-scaled, InRoom-same, Meets-same, IsClear-same}
use Rattle.plan_model.proofs.laws.clearance.denominators_do_not_matter.Goals as goal

pub returns-clause-same : goal.returns-clause-same
returns-clause-same c = IsSamePoint-scaled

pub returns-clause-in_room : goal.returns-clause-in_room
returns-clause-in_room c = λ space q r h. (InRoom-same space q r h, InRoom-same space r q (IsSamePoint-sym q r h))

pub returns-clause-meets : goal.returns-clause-meets
returns-clause-meets c = λ clearance body obstacle q r h. (
  Meets-same clearance body obstacle q r h,
  Meets-same clearance body obstacle r q (IsSamePoint-sym q r h),
)

pub returns-clause-clear : goal.returns-clause-clear
returns-clause-clear c = λ space q r h. (IsClear-same space q r h, IsClear-same space r q (IsSamePoint-sym q r h))
