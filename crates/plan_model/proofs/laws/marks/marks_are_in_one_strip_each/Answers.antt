use Rattle.plan_model.proofs.StripMarks.{IsMarkOf-own, IsMarkOf-strip, IsMarkOf-place, IsMarkOf-below}
use Rattle.plan_model.proofs.laws.marks.marks_are_in_one_strip_each.Goals as goal

pub returns-clause-some : goal.returns-clause-some
returns-clause-some c = IsMarkOf-own

pub returns-clause-strip : goal.returns-clause-strip
returns-clause-strip c = IsMarkOf-strip

pub returns-clause-place : goal.returns-clause-place
returns-clause-place c = IsMarkOf-place

pub returns-clause-below : goal.returns-clause-below
returns-clause-below c = IsMarkOf-below
