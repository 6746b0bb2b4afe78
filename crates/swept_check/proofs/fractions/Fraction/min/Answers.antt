use Rattle.std.proofs.Common.{rules, arith, ◌≤◌, ◌*◌}
use Rattle.swept_check.proofs.Parameters.{before-greater}
use Rattle.swept_check.proofs.fractions.Fraction.min.Goals as goal

pub returns-then-is_at_most : goal.returns-then-is_at_most
returns-then-is_at_most c s d =
    let x = c.args.self in
    let y = c.args.other in
    let order : x.numerator * y.denominator ≤ y.numerator * x.denominator = search rules in
    (λ h. (h, before-greater x.numerator x.denominator y.numerator y.denominator s d x.positive order h), λ h. h.0)

pub returns-else-is_at_most : goal.returns-else-is_at_most
returns-else-is_at_most c s d =
    let x = c.args.self in
    let y = c.args.other in
    let order : y.numerator * x.denominator ≤ x.numerator * y.denominator = grind (arith, rules) in
    (λ h. (before-greater y.numerator y.denominator x.numerator x.denominator s d y.positive order h, h), λ h. h.1)
