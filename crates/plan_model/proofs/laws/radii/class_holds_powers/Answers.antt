use Rattle.plan_model.proofs.ClassLaws.{below_digits, from_digits}
use Rattle.plan_model.proofs.laws.radii.class_holds_powers.Goals as goal

pub returns-clause-low : goal.returns-clause-low
returns-clause-low c = from_digits

pub returns-clause-high : goal.returns-clause-high
returns-clause-high c = below_digits
