use Rattle.plan_model.proofs.MeetingLaws.{Meets-greater, IsClear-smaller}
use Rattle.plan_model.proofs.laws.clearance.greater_clearances_meet_more.Goals as goal

pub returns-clause-meets : goal.returns-clause-meets
returns-clause-meets c = Meets-greater

pub returns-clause-clear : goal.returns-clause-clear
returns-clause-clear c = IsClear-smaller
