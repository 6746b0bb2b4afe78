use Rattle.plan_model.proofs.StripLaws.{strip-first, strip-next, strip-last}
use Rattle.plan_model.proofs.laws.marks.strips_make_up_the_span.Goals as goal

pub returns-clause-first : goal.returns-clause-first
returns-clause-first c = strip-first

pub returns-clause-next : goal.returns-clause-next
returns-clause-next c = strip-next

pub returns-clause-last : goal.returns-clause-last
returns-clause-last c = strip-last
