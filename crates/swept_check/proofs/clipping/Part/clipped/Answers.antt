-- Each arm by the signs at the ends.
use Rattle.swept_check.proofs.Words.{◌≡◌, ◌+◌, arith, rules, pos, ◌≤ℤ◌, ◌<ℤ◌, unsigned_abs, ints}
use Rattle.swept_check.proofs.ClippedParts.{clipped_entry, clipped_exit}
use Rattle.swept_check.proofs.LinearValues.{IsAdmitted-inside, IsAdmitted-entering, IsAdmitted-leaving}
use Rattle.swept_check.proofs.clipping.Part.clipped.Goals as goal

pub returns-in-true-true : goal.returns-in-true-true
returns-in-true-true c s d p l =
    let from : pos 0 ≤ℤ c.args.from = omega (arith, ints, c.in-true-true.is-0) in
    let to : pos 0 ≤ℤ c.args.to = omega (arith, ints, c.in-true-true.is-1) in
    (λ h. (h, IsAdmitted-inside c.args.from c.args.to s d from to l), λ h. h.0)

pub returns-in-true-false : goal.returns-in-true-false
returns-in-true-false c s d p l =
    let from : pos 0 ≤ℤ c.args.from = omega (arith, ints, c.in-true-false.is-0) in
    let to : c.args.to <ℤ pos 0 = omega (arith, ints, c.in-true-false.is-1) in
    let inside : c.of_parts-exit.result.numerator ≡ unsigned_abs c.args.from = search rules in
    let whole : c.of_parts-exit.result.denominator ≡ unsigned_abs c.args.from + unsigned_abs c.args.to = search rules in
    clipped_exit c.args.self.entry c.args.self.exit c.of_parts-exit.result c.min.result c.args.from c.args.to s d
    (unsigned_abs c.args.from) (unsigned_abs c.args.to) inside whole (c.min.ensures s d)
    (IsAdmitted-leaving c.args.from c.args.to s d from to l)

pub returns-in-false-true : goal.returns-in-false-true
returns-in-false-true c s d p l =
    let from : c.args.from <ℤ pos 0 = omega (arith, ints, c.in-false-true.is-0) in
    let to : pos 0 ≤ℤ c.args.to = omega (arith, ints, c.in-false-true.is-1) in
    let outside : c.of_parts-entry.result.numerator ≡ unsigned_abs c.args.from = search rules in
    let whole : c.of_parts-entry.result.denominator ≡ unsigned_abs c.args.from + unsigned_abs c.args.to = search rules in
    clipped_entry c.args.self.entry c.args.self.exit c.of_parts-entry.result c.max.result c.args.from c.args.to s d
    (unsigned_abs c.args.from) (unsigned_abs c.args.to) outside whole (c.max.ensures s d)
    (IsAdmitted-entering c.args.from c.args.to s d from to l)
