-- A coordinate is moved by a share of the way, rounded towards where it stands. So a step is short, and leads nearer.
use Rattle.plan_model.proofs.Words.{◌≡◌, ℕ, zero, suc, ◌+◌, ◌-◌, ◌*◌, ◌/◌, ◌<◌, ◌≤◌, ◌≢◌, Bool, true, false, cond, leb, refl, sym, ap, ◌∙◌, subst, arith, inl}
use Rattle.plan_model.proofs.Words.{inr, ℤ, pos, neg_ℤ, ◌+ℤ◌, ◌-ℤ◌, ◌*ℤ◌, int_div, unsigned_abs, min, max, abs_diff, div-le_of_le-mul, div-mul-le_self}
use Rattle.plan_model.proofs.Words.{le_of_mul-le-mul_right, cases_lt, le-leb, lt-leb, leb-true, leb-false, ints, mul-le, mod_below, div-add-mod', Point}
use Rattle.plan_model.proofs.Words.{squared_distance, IsInBoxOf, IsRootCeiling, IsStep, advanced, steered}
use Rattle.plan_model.specs.Geometry.Lengths.{root_ceiling}
use Rattle.plan_model.proofs.RootLaws.{root_ceiling-is, lt-from_squares}
use Rattle.plan_model.proofs.SamePoints.{point_is}

forwards : (from step len d : ℕ) (z : ℤ) → z ≡ pos d → unsigned_abs (pos from +ℤ int_div (z *ℤ pos step) (pos len)) ≡ from + (d * step) / len
forwards from step len d z e = rw e refl

pub advanced-forwards : (from to step len : ℕ) → from ≤ to → advanced from to step len ≡ from + ((to - from) * step) / len
advanced-forwards from to step len h = forwards from step len (to - from) (pos to -ℤ pos from) (omega (arith, ints))

less : (from k : ℕ) → k ≤ from → unsigned_abs (pos from +ℤ neg_ℤ (pos k)) ≡ from - k
less from k h =
    let e : pos from +ℤ neg_ℤ (pos k) ≡ pos (from - k) = omega (arith, ints) in
    ap unsigned_abs e

-- a share of a way that is not above 0
share_back : (from m len : ℕ) → 0 < len → m / len ≤ from → unsigned_abs (pos from +ℤ int_div (neg_ℤ (pos m)) (pos len)) ≡ from - m / len
share_back from zero len some h =
    let low : 0 / len ≤ 0 = div-le_of_le-mul len (omega arith) in
    let none : 0 / len ≡ 0 = omega arith in
    rw none (omega arith)
share_back from (suc m) len some h = less from (suc m / len) h

product : (d step : ℕ) → neg_ℤ (pos d) *ℤ pos step ≡ neg_ℤ (pos (d * step))
product zero step = let none : 0 * step ≡ 0 = omega arith in rw none refl
product (suc d) step = refl

backwards :
    (from step len d : ℕ) (z : ℤ) → z ≡ neg_ℤ (pos d) → d ≤ from → 0 < len → step ≤ len
    → unsigned_abs (pos from +ℤ int_div (z *ℤ pos step) (pos len)) ≡ from - (d * step) / len
backwards from step len d z e low some short =
    let way : (d * step) / len ≤ d = div-le_of_le-mul len (omega (arith, mul-le d step d len (omega arith) short)) in
    rw (e, product d step) (share_back from (d * step) len some (omega arith))

pub advanced-backwards : (from to step len : ℕ) → to ≤ from → 0 < len → step ≤ len → advanced from to step len ≡ from - ((from - to) * step) / len
advanced-backwards from to step len h some short =
    backwards from step len (from - to) (pos to -ℤ pos from) (omega (arith, ints)) (omega arith) some short

-- ---- one coordinate
-- p is on the way between two coordinates, and at most step / len of it away from the first
pub record IsShare (from to step len p : ℕ) : Type 0 where
  pub least : min from to ≤ p
  pub greatest : p ≤ max from to
  pub share : abs_diff from p * len ≤ abs_diff from to * step

share-forwards : (from to step len w : ℕ) → from ≤ to → step ≤ len → w * len ≤ (to - from) * step → 0 < len → IsShare from to step len (from + w)
share-forwards from to step len w h short share some =
    let way : w ≤ to - from = le_of_mul-le-mul_right (omega (arith, mul-le (to - from) step (to - from) len (omega arith) short)) some in
    let moved : abs_diff from (from + w) ≡ w = omega arith in
    let whole : abs_diff from to ≡ to - from = omega arith in
    record { least = omega arith; greatest = omega arith; share = rw (moved, whole) share }

share-backwards : (from to step len w : ℕ) → to ≤ from → step ≤ len → w * len ≤ (from - to) * step → 0 < len → IsShare from to step len (from - w)
share-backwards from to step len w h short share some =
    let way : w ≤ from - to = le_of_mul-le-mul_right (omega (arith, mul-le (from - to) step (from - to) len (omega arith) short)) some in
    let moved : abs_diff from (from - w) ≡ w = omega arith in
    let whole : abs_diff from to ≡ from - to = omega arith in
    record { least = omega arith; greatest = omega arith; share = rw (moved, whole) share }

pub IsShare-advanced : (from to step len : ℕ) → 0 < len → step ≤ len → IsShare from to step len (advanced from to step len)
IsShare-advanced from to step len some short =
    elim (cases_lt from to) [
      | inl before ↦ rw (advanced-forwards from to step len (omega arith))
          (share-forwards from to step len (((to - from) * step) / len) (omega arith) short (div-mul-le_self ((to - from) * step) len) some)
      | inr after ↦ rw (advanced-backwards from to step len after some short)
          (share-backwards from to step len (((from - to) * step) / len) after short (div-mul-le_self ((from - to) * step) len) some)
    ]

-- ---- both coordinates
-- the square of a share, from the share
square_share : (w d s l : ℕ) → w * l ≤ d * s → (w * w) * (l * l) ≤ (d * d) * (s * s)
square_share w d s l h = omega (arith, mul-le (w * l) (w * l) (d * s) (d * s) h h)

-- v and w are at most the shares s / l of d and e, and (d, e) is no longer than l
shares_within_step : (v w d e s l : ℕ) → 0 < l → v * l ≤ d * s → w * l ≤ e * s → d * d + e * e ≤ l * l → v * v + w * w ≤ s * s
shares_within_step v w d e s l some h k whole =
    elim (cases_lt (s * s) (v * v + w * w)) [
      | inl more ↦ (
          let length = mul-le (d * d + e * e) (s * s) (l * l) (s * s) whole (omega arith) in
          let above = mul-le (s * s + 1) (l * l) (v * v + w * w) (l * l) (omega arith) (omega arith) in
          absurd (omega (arith, square_share v d s l h, square_share w e s l k, length, above, mul-le 1 1 l l (omega arith) (omega arith))))
      | inr fits ↦ fits
    ]

zero_square : (v : ℕ) → v * v ≤ 0 → v ≡ 0
zero_square zero h = refl
zero_square (suc v) h = absurd (omega (arith, mul-le 1 1 (suc v) (suc v) (omega arith) (omega arith)))

square_of_parts : (x v d : ℕ) → d ≡ x + v → x * x + v * v ≤ d * d
square_of_parts x v d e = rw e (omega arith)

-- the length of (d, e) is above that of the parts x and y, unless the rests v and w are 0
rests_are_none : (d e x y v w : ℕ) → d ≡ x + v → e ≡ y + w → d * d + e * e ≤ x * x + y * y → (v ≡ 0) × (w ≡ 0)
rests_are_none d e x y v w h k far =
    let of_d = square_of_parts x v d h in
    let of_e = square_of_parts y w e k in
    (zero_square v (omega arith), zero_square w (omega arith))

-- a step whose square is below n is below the root of n
pub step_below_root : (s n r : ℕ) → s * s < n → IsRootCeiling n r → s < r
step_below_root s n r below root = lt-from_squares s r (s * s) (omega arith) (omega (arith, root.reaches))

-- x and y are the shares step / len of the way from a to b, which is no longer than len
pub IsStep-partial :
    (a b : Point) (step len x y : ℕ) → 0 < len → step ≤ len → squared_distance a b ≤ len * len → x ≡ advanced a.x b.x step len → y ≡ advanced a.y b.y step len
    → IsStep a b step (record { x = x; y = y })
IsStep-partial a b step len x y some beyond whole e f =
    let across : IsShare a.x b.x step len x = rw e (IsShare-advanced a.x b.x step len some beyond) in
    let up : IsShare a.y b.y step len y = rw f (IsShare-advanced a.y b.y step len some beyond) in
    record {
      short = shares_within_step (abs_diff a.x x) (abs_diff a.y y) (abs_diff a.x b.x) (abs_diff a.y b.y) step len some across.share up.share whole;
      within = record { left = across.least; right = across.greatest; bottom = up.least; top = up.greatest };
    }

IsStep-whole : (a b : Point) (step : ℕ) → squared_distance a b ≤ step * step → IsStep a b step b
IsStep-whole a b step near = record {
  short = near;
  within = record { left = omega arith; right = omega arith; bottom = omega arith; top = omega arith };
}

-- the step whose way is len long
abbrev step_by : ℕ → Point → Point → ℕ → Point
step_by len a b step = record { x = advanced a.x b.x step len; y = advanced a.y b.y step len }

step_by_test :
    (test : Bool) (a b : Point) (step len : ℕ) → leb (squared_distance a b) (step * step) ≡ test → IsRootCeiling (squared_distance a b) len
    → IsStep a b step (cond test b (step_by len a b step))
step_by_test true a b step len e root = IsStep-whole a b step (leb-true _ _ e)
step_by_test false a b step len e root =
    let far : step * step < squared_distance a b = leb-false _ _ e in
    let beyond : step < len = step_below_root step (squared_distance a b) len far root in
    IsStep-partial a b step len (advanced a.x b.x step len) (advanced a.y b.y step len) (omega arith) (omega arith) root.reaches refl refl

pub IsStep-steered : (a b : Point) (step : ℕ) → IsStep a b step (steered a b step)
IsStep-steered a b step =
    step_by_test (leb (squared_distance a b) (step * step)) a b step (root_ceiling (squared_distance a b)) refl (root_ceiling-is (squared_distance a b))

pub steered-near : (a b : Point) (step : ℕ) → squared_distance a b ≤ step * step → steered a b step ≡ b
steered-near a b step near = rw (le-leb (squared_distance a b) (step * step) near) refl

pub near-from_steered : (a b : Point) (step : ℕ) → steered a b step ≡ b → squared_distance a b ≤ step * step
near-from_steered a b step e = subst (λ p. squared_distance a p ≤ step * step) e (IsStep-steered a b step).short

-- between two coordinates
split : (from to p : ℕ) → min from to ≤ p → p ≤ max from to → abs_diff from to ≡ abs_diff p to + abs_diff from p
split from to p low high = omega arith

same_coordinate : (a b : ℕ) → abs_diff a b ≡ 0 → b ≡ a
same_coordinate a b h = omega arith

-- a point of the box of a and b that is no nearer to b than a is, is a
pub corner_of_box : (a b p : Point) → IsInBoxOf a b p → squared_distance a b ≤ squared_distance p b → p ≡ a
corner_of_box a b p box far =
    let x = split a.x b.x p.x box.left box.right in
    let y = split a.y b.y p.y box.bottom box.top in
    let rests = rests_are_none _ _ _ _ (abs_diff a.x p.x) (abs_diff a.y p.y) x y far in
    point_is p a (same_coordinate a.x p.x rests.0) (same_coordinate a.y p.y rests.1)

pub steered-nearer : (a b : Point) (step : ℕ) → steered a b step ≢ a → squared_distance (steered a b step) b < squared_distance a b
steered-nearer a b step moved =
    elim (cases_lt (squared_distance (steered a b step) b) (squared_distance a b)) [
      | inl nearer ↦ nearer
      | inr far ↦ absurd (moved (corner_of_box a b (steered a b step) (IsStep-steered a b step).within far))
    ]

-- ---- steps that are cut to nothing
pub steered-far :
    (a b : Point) (step : ℕ) → step * step < squared_distance a b
    → steered a b step ≡ step_by (root_ceiling (squared_distance a b)) a b step
steered-far a b step far = rw (lt-leb (squared_distance a b) (step * step) far) refl

share_below : (m len : ℕ) → 0 < len → m / len ≡ 0 → m < len
share_below m len some none = omega (arith, div-add-mod' m len, mod_below m len some, ap (λ k. k * len) none)

-- a coordinate that stays where it is has a share of less than one column
stays_below : (from to step len : ℕ) → 0 < len → step ≤ len → advanced from to step len ≡ from → abs_diff from to * step < len
stays_below from to step len some short stays =
    elim (cases_lt from to) [
      | inl before ↦ (
          let whole : abs_diff from to ≡ to - from = omega arith in
          rw whole (share_below ((to - from) * step) len some (omega (arith, advanced-forwards from to step len (omega arith)))))
      | inr after ↦ (
          let whole : abs_diff from to ≡ from - to = omega arith in
          let shorter = mul-le (from - to) step (from - to) len (omega arith) short in
          let way : ((from - to) * step) / len ≤ from - to = div-le_of_le-mul len (omega (arith, shorter)) in
          rw whole (share_below ((from - to) * step) len some (omega (arith, advanced-backwards from to step len after some short))))
    ]

-- by a step of 2 at least, the shares of a way of length r + 1, rounded up, are not both below one column
one_moves : (d e step r : ℕ) → 1 < step → r * r < d * d + e * e → d * step < r + 1 → e * step < r + 1 → ⊥
one_moves d e step r more long h k =
    let of_d = mul-le (d * step) (d * step) r r (omega arith) (omega arith) in
    let of_e = mul-le (e * step) (e * step) r r (omega arith) (omega arith) in
    let squares : 2 * 2 ≤ step * step = mul-le 2 2 step step (omega arith) (omega arith) in
    omega (arith, of_d, of_e, mul-le (d * d + e * e) 4 (d * d + e * e) (step * step) (omega arith) (omega arith))

-- the square of the number before a root falls short
before_root : (n r : ℕ) → 0 < r → IsRootCeiling n r → (r - 1) * (r - 1) < n
before_root n r some root =
    elim (cases_lt ((r - 1) * (r - 1)) n) [
      | inl short ↦ short
      | inr reached ↦ absurd (omega (arith, root.least (r - 1) reached))
    ]

far_moves : (a b : Point) (step : ℕ) → 1 < step → step * step < squared_distance a b → steered a b step ≡ a → ⊥
far_moves a b step more far stays =
    let len : ℕ = root_ceiling (squared_distance a b) in
    let root : IsRootCeiling (squared_distance a b) len = root_ceiling-is (squared_distance a b) in
    let beyond : step < len = step_below_root step (squared_distance a b) len far root in
    let place = sym (steered-far a b step far) ∙ stays in
    let x = stays_below a.x b.x step len (omega arith) (omega arith) (ap (λ p. p.x) place) in
    let y = stays_below a.y b.y step len (omega arith) (omega arith) (ap (λ p. p.y) place) in
    one_moves (abs_diff a.x b.x) (abs_diff a.y b.y) step (len - 1) more (before_root (squared_distance a b) len (omega arith) root) (omega arith) (omega arith)

-- a step of 2 at least leads away from a, unless b is a
pub steered-moves : (a b : Point) (step : ℕ) → 1 < step → steered a b step ≡ a → a ≡ b
steered-moves a b step more stays =
    elim (cases_lt (step * step) (squared_distance a b)) [
      | inl far ↦ absurd (far_moves a b step more far stays)
      | inr near ↦ sym stays ∙ steered-near a b step near
    ]
