use Rattle.plan_model.proofs.StripLaws.{strip-some, strip-within}
use Rattle.plan_model.proofs.laws.marks.strips_have_columns_of_the_span.Goals as goal

pub returns-clause-some : goal.returns-clause-some
returns-clause-some c = strip-some

pub returns-clause-within : goal.returns-clause-within
returns-clause-within c = strip-within
