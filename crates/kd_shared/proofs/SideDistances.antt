-- The sides of a node, how far they are, and which of them are within a radius.
use Rattle.kd_shared.proofs.Words.{◌≡◌, ℕ, zero, suc, ◌*◌, ◌<◌, ◌≤◌, Bool, true, false, not, arith, refl, IsFalse, nat_lt, abs_diff, ltb-true, ltb-false}
use Rattle.kd_shared.proofs.Words.{mul-le, Point, squared_distance, goes_right_by, past_line, side_distance}

-- a coordinate on one side of a line is at least as far as the line
past_line-le : (line at other : ℕ) (side : Bool) → not (nat_lt at line) ≡ side → past_line line other side ≤ abs_diff at other
past_line-le line at other true goes = omega (arith, ltb-false at line (flip (nat_lt at line) goes))
  where
    flip : (b : Bool) → not b ≡ true → b ≡ false
    flip true e = cc
    flip false e = refl
past_line-le line at other false goes = omega (arith, ltb-true at line (flip (nat_lt at line) goes))
  where
    flip : (b : Bool) → not b ≡ false → b ≡ true
    flip true e = refl
    flip false e = cc

-- a point on one side of a node at p is at least as far as that side
pub side_distance-le : (by_rows : Bool) (p q target : Point) (side : Bool) → goes_right_by by_rows p q ≡ side
    → side_distance by_rows p target side * side_distance by_rows p target side ≤ squared_distance q target
side_distance-le true p q target side goes =
    let far = past_line-le p.y q.y target.y side goes in
    omega (arith, mul-le (past_line p.y target.y side) (past_line p.y target.y side) (abs_diff q.y target.y) (abs_diff q.y target.y) far far)
side_distance-le false p q target side goes =
    let far = past_line-le p.x q.x target.x side goes in
    omega (arith, mul-le (past_line p.x target.x side) (past_line p.x target.x side) (abs_diff q.x target.x) (abs_diff q.x target.x) far far)

mul-lt : (r gap : ℕ) → r < gap → r * r < gap * gap
mul-lt r (suc gap) less = (let le = mul-le r r gap gap (omega (arith, less)) (omega (arith, less)) in omega (arith, le))
mul-lt r zero less = absurd (omega (arith, less))

-- a side that is left out is beyond the radius
pub beyond_radius : (gap r : ℕ) (within : Bool) → (IsFalse within → r < gap) → IsFalse within → r * r < gap * gap
beyond_radius gap r within beyond out = mul-lt r gap (beyond out)
