-- The points of a segment: where they are, and that a segment is clear from either end.
use Rattle.plan_model.proofs.Words.{◌≡◌, ℕ, suc, ◌+◌, ◌-◌, ◌*◌, ◌<◌, ◌≤◌, arith, ap, refl, ℤ, pos, negsuc, ◌+ℤ◌, ◌-ℤ◌, ◌*ℤ◌, le_refl, ints, Point}
use Rattle.plan_model.proofs.Words.{ConfigurationSpace, at_lattice, IsSamePoint, ClearAt, on_the_way, Clear}
use Rattle.plan_model.proofs.RationalPoints.{IsSamePoint-sym, IsClear-same}

-- s of d parts and the rest of them are the whole
pub part_and_rest : (s d n : ℕ) → s ≤ d → (d - s) * n + s * n ≡ d * n
part_and_rest s d n h =
    let whole : (d - s) + s ≡ d = omega arith in
    omega (arith, ap (λ m. m * n) whole)

-- s of the d parts of the way from a to b, in a whole number of parts, by the sign of the difference
way_by_difference : (s d a b : ℕ) (z : ℤ) → s ≤ d → z ≡ pos b -ℤ pos a → (pos d *ℤ pos a) +ℤ (pos s *ℤ z) ≡ pos ((d - s) * a + s * b)
way_by_difference s d a b (pos e) h z =
    let g : b ≡ a + e = omega (arith, ints) in
    rw g (omega (arith, ints, part_and_rest s d a h))
way_by_difference s d a b (negsuc e) h z =
    let g : a ≡ b + suc e = omega (arith, ints) in
    rw g (omega (arith, ints, part_and_rest s d (b + suc e) h))

pub way_is : (s d a b : ℕ) → s ≤ d → (pos d *ℤ pos a) +ℤ (pos s *ℤ (pos b -ℤ pos a)) ≡ pos ((d - s) * a + s * b)
way_is s d a b h = way_by_difference s d a b (pos b -ℤ pos a) h refl

-- the first and the last point of a segment
pub IsSamePoint-first : (a b : Point) (d : ℕ) (positive : 0 < d) → IsSamePoint (on_the_way a b 0 d positive) (at_lattice a)
IsSamePoint-first a b d positive =
    let x = way_is 0 d a.x b.x (omega arith) in
    let y = way_is 0 d a.y b.y (omega arith) in
    record { horizontal = omega (arith, ints); vertical = omega (arith, ints) }

pub IsSamePoint-last : (a b : Point) (d : ℕ) (positive : 0 < d) → IsSamePoint (on_the_way a b d d positive) (at_lattice b)
IsSamePoint-last a b d positive =
    let x = way_is d d a.x b.x (omega arith) in
    let y = way_is d d a.y b.y (omega arith) in
    let none : d - d ≡ 0 = omega arith in
    let of_x : (d - d) * a.x ≡ 0 = rw none (omega arith) in
    let of_y : (d - d) * a.y ≡ 0 = rw none (omega arith) in
    record { horizontal = omega (arith, ints); vertical = omega (arith, ints) }

-- a segment from a point to itself has that point alone
pub IsSamePoint-alone : (a : Point) (s d : ℕ) (positive : 0 < d) → s ≤ d → IsSamePoint (on_the_way a a s d positive) (at_lattice a)
IsSamePoint-alone a s d positive h =
    let x = way_is s d a.x a.x h in
    let y = way_is s d a.y a.y h in
    record { horizontal = omega (arith, ints, part_and_rest s d a.x h); vertical = omega (arith, ints, part_and_rest s d a.y h) }

-- s parts of the way are d - s parts of the way back
back_is : (s d a b : ℕ) → s ≤ d → (pos d *ℤ pos b) +ℤ (pos (d - s) *ℤ (pos a -ℤ pos b)) ≡ (pos d *ℤ pos a) +ℤ (pos s *ℤ (pos b -ℤ pos a))
back_is s d a b h =
    let there = way_is s d a b h in
    let back = way_is (d - s) d b a (omega arith) in
    let rest : d - (d - s) ≡ s = omega arith in
    omega (arith, ints, ap (λ k. k * b) rest)

IsSamePoint-back : (a b : Point) (s d : ℕ) (positive : 0 < d) → s ≤ d → IsSamePoint (on_the_way b a (d - s) d positive) (on_the_way a b s d positive)
IsSamePoint-back a b s d positive h = record {
  horizontal = ap (λ z. z *ℤ pos d) (back_is s d a.x b.x h);
  vertical = ap (λ z. z *ℤ pos d) (back_is s d a.y b.y h);
}

pub Clear-first : (space : ConfigurationSpace) (a b : Point) → Clear space a b → ClearAt space a
Clear-first space a b clear =
    IsClear-same space (on_the_way a b 0 1 (le_refl 1)) (at_lattice a) (IsSamePoint-first a b 1 (le_refl 1)) (clear 0 1 (le_refl 1) (omega arith))

pub Clear-last : (space : ConfigurationSpace) (a b : Point) → Clear space a b → ClearAt space b
Clear-last space a b clear =
    IsClear-same space (on_the_way a b 1 1 (le_refl 1)) (at_lattice b) (IsSamePoint-last a b 1 (le_refl 1)) (clear 1 1 (le_refl 1) (omega arith))

pub Clear-alone : (space : ConfigurationSpace) (a : Point) → ClearAt space a → Clear space a a
Clear-alone space a clear s d positive h =
    IsClear-same space (at_lattice a) (on_the_way a a s d positive) (IsSamePoint-sym _ _ (IsSamePoint-alone a s d positive h)) clear

pub Clear-back : (space : ConfigurationSpace) (a b : Point) → Clear space a b → Clear space b a
Clear-back space a b clear s d positive h =
    IsClear-same space (on_the_way a b (d - s) d positive) (on_the_way b a s d positive) (IsSamePoint-back b a s d positive h)
    (clear (d - s) d positive (omega arith))
