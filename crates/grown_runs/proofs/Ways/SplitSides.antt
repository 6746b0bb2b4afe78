-- The sides of a node by depth and by row or column, and how far the points of the other side are.
use Rattle.grown_runs.proofs.Words.{◌≡◌, ◌⊎◌, ℕ, zero, suc, ◌*◌, ◌<◌, ◌≤◌, Bool, true, false, not, arith, refl, ap, ◌∙◌, inl, inr, ◌%◌, ◌==◌, if◌then◌else◌}
use Rattle.grown_runs.proofs.Words.{nat_lt, abs_diff, ltb-true, ltb-false, suc-mod, mul-le, Point, squared_distance, goes_right, goes_right_by, is_by_rows}
use Rattle.grown_runs.proofs.Words.{split_distance}

-- by row at odd depth, by column at even depth
pub goes_right-by : (depth : ℕ) (p q : Point) → goes_right depth p q ≡ goes_right_by (is_by_rows depth) p q
goes_right-by depth p q = by_test (depth % 2 == 0)
  where
    by_test : (even : Bool) → (if even then not (nat_lt q.x p.x) else not (nat_lt q.y p.y)) ≡ goes_right_by (not even) p q
    by_test true = refl
    by_test false = refl

-- from depth to depth rows and columns take turns
pub is_by_rows-next : (depth : ℕ) → is_by_rows (suc depth) ≡ not (is_by_rows depth)
is_by_rows-next depth = ap (λ m. not (m == 0)) (suc-mod depth 2) ∙ by_rest (depth % 2) (omega arith)
  where
    by_rest : (rest : ℕ) → rest < 2 → not (suc rest % 2 == 0) ≡ not (not (rest == 0))
    by_rest zero low = refl
    by_rest (suc zero) low = refl
    by_rest (suc (suc rest)) low = absurd (omega (arith, low))

pub two_sides : (a b : Bool) → (a ≡ b) ⊎ (a ≡ not b)
two_sides true true = inl refl
two_sides true false = inr refl
two_sides false true = inr refl
two_sides false false = inl refl

-- what is on the other side of a line is at least as far as the line
across : (p q t : ℕ) (side : Bool) → nat_lt t p ≡ side → not (nat_lt q p) ≡ side → abs_diff p t ≤ abs_diff q t
across p q t true h k = omega (arith, ltb-true t p h, ltb-false q p (flip (nat_lt q p) k))
  where
    flip : (b : Bool) → not b ≡ true → b ≡ false
    flip true e = cc
    flip false e = refl
across p q t false h k = omega (arith, ltb-false t p h, ltb-true q p (flip (nat_lt q p) k))
  where
    flip : (b : Bool) → not b ≡ false → b ≡ true
    flip true e = refl
    flip false e = cc

other_test : (a b : Bool) → not b ≡ not (not a) → not b ≡ a
other_test true b h = h
other_test false b h = h

pub split_distance-le : (by_rows : Bool) (p q t : Point) → goes_right_by by_rows p q ≡ not (goes_right_by by_rows p t)
    → split_distance by_rows p t * split_distance by_rows p t ≤ squared_distance q t
split_distance-le true p q t h =
    let far = across p.y q.y t.y (nat_lt t.y p.y) refl (other_test (nat_lt t.y p.y) (nat_lt q.y p.y) h) in
    omega (arith, mul-le (abs_diff p.y t.y) (abs_diff p.y t.y) (abs_diff q.y t.y) (abs_diff q.y t.y) far far)
split_distance-le false p q t h =
    let far = across p.x q.x t.x (nat_lt t.x p.x) refl (other_test (nat_lt t.x p.x) (nat_lt q.x p.x) h) in
    omega (arith, mul-le (abs_diff p.x t.x) (abs_diff p.x t.x) (abs_diff q.x t.x) (abs_diff q.x t.x) far far)
