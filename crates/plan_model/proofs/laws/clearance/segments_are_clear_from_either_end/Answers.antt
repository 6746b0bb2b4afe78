use Rattle.plan_model.proofs.SegmentLaws.{Clear-first, Clear-last, Clear-alone, Clear-back}
use Rattle.plan_model.proofs.laws.clearance.segments_are_clear_from_either_end.Goals as goal

pub returns-clause-alone : goal.returns-clause-alone
returns-clause-alone c = λ space a. (Clear-first space a a, Clear-alone space a)

pub returns-clause-first : goal.returns-clause-first
returns-clause-first c = Clear-first

pub returns-clause-last : goal.returns-clause-last
returns-clause-last c = Clear-last

pub returns-clause-both_ways : goal.returns-clause-both_ways
returns-clause-both_ways c = λ space a b. (Clear-back space a b, Clear-back space b a)
