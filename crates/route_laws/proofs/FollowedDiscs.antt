-- A segment into the middle of a disc stays in the disc, so a link whose disc is clear is open.
use Rattle.route_laws.proofs.Words.{◌≡◌, inl, inr, ℕ, zero, suc, ◌+◌, ◌-◌, ◌*◌, ◌<◌, ◌≤◌, List, [], ◌∷◌, map, arith, refl, ap, ◌∙◌, ℤ, pos, neg_ℤ, ◌-ℤ◌}
use Rattle.route_laws.proofs.Words.{unsigned_abs, abs_diff, cases_lt, ints, mul-le, HasClearDisc, IsInDisc, gap_from, AreLinks, IsOpenLink, IsRoute}
use Rattle.route_laws.proofs.Common.{Point, squared_distance, mark_at, Setup, on_the_way, way_is}

-- ---- routes of such links

AreLinks-weaker :
    (IsOne IsOther : Point → Point → Type 0) → ((a b : Point) → IsOne a b → IsOther a b) → (a : Point) (points : List Point)
    → AreLinks IsOne a points → AreLinks IsOther a points
AreLinks-weaker IsOne IsOther step a [] links = links
AreLinks-weaker IsOne IsOther step a (b ∷ points) links = (step a b links.0, AreLinks-weaker IsOne IsOther step b points links.1)

-- a route of some links is one of others that each of them is
pub IsRoute-weaker :
    (setup : Setup) (marks : List Point) (numbers : List ℕ) (IsOne IsOther : Point → Point → Type 0) → ((a b : Point) → IsOne a b → IsOther a b)
    → IsRoute setup marks IsOne numbers → IsRoute setup marks IsOther numbers
IsRoute-weaker setup marks numbers IsOne IsOther step route = record {
  rise = route.rise;
  links = AreLinks-weaker IsOne IsOther step setup.start (map (mark_at marks) numbers) route.links;
}

-- ---- segments in discs

below_zero : (n : ℕ) → unsigned_abs (neg_ℤ (pos n)) ≡ n
below_zero zero = refl
below_zero (suc n) = refl

-- the difference of two coordinates, without its sign
pub difference : (m n : ℕ) → unsigned_abs (pos m -ℤ pos n) ≡ abs_diff m n
difference m n =
    elim (cases_lt m n) [
      | inl less ↦ (
          let e : pos m -ℤ pos n ≡ neg_ℤ (pos (n - m)) = omega (arith, ints) in
          ap unsigned_abs e ∙ below_zero (n - m) ∙ omega arith)
      | inr more ↦ (
          let e : pos m -ℤ pos n ≡ pos (m - n) = omega (arith, ints) in
          ap unsigned_abs e ∙ omega arith)
    ]

-- r of r + s parts of the way to b are left
rest_of_way : (r s p b : ℕ) → abs_diff (r * p + s * b) ((r + s) * b) ≡ r * abs_diff p b
rest_of_way r s p b =
    elim (cases_lt p b) [
      | inl less ↦ (
          let e : b ≡ p + (b - p) = omega arith in
          let way : abs_diff p b ≡ b - p = omega arith in
          rw way (omega (arith, ap (λ n. r * n) e)))
      | inr more ↦ (
          let e : p ≡ b + (p - b) = omega arith in
          let way : abs_diff p b ≡ p - b = omega arith in
          rw way (omega (arith, ap (λ n. r * n) e)))
    ]

-- how far a coordinate of a point of the segment is from that of its end
gap_on_way : (s d p b : ℕ) (x : ℤ) → s ≤ d → x ≡ pos ((d - s) * p + s * b) → gap_from d x b ≡ (d - s) * abs_diff p b
gap_on_way s d p b x h e =
    let whole : d ≡ (d - s) + s = omega arith in
    ap (λ z. unsigned_abs (z -ℤ pos (d * b))) e
    ∙ difference ((d - s) * p + s * b) (d * b)
    ∙ ap (λ n. abs_diff ((d - s) * p + s * b) (n * b)) whole
    ∙ rest_of_way (d - s) s p b

-- parts of a way are no longer than the whole
parts_within : (r d u v whole : ℕ) → r ≤ d → u * u + v * v ≤ whole → (r * u) * (r * u) + (r * v) * (r * v) ≤ (d * d) * whole
parts_within r d u v whole h k =
    omega (arith, mul-le (r * r) (u * u + v * v) (d * d) whole (mul-le r r d d h h) k)

-- each point of a segment to b from a point of the disc is in the disc
IsInDisc-way :
    (a b p : Point) (s d : ℕ) (positive : 0 < d) → s ≤ d → squared_distance p b ≤ squared_distance a b → IsInDisc a b (on_the_way p b s d positive)
IsInDisc-way a b p s d positive h near =
    let x = gap_on_way s d p.x b.x _ h (way_is s d p.x b.x h) in
    let y = gap_on_way s d p.y b.y _ h (way_is s d p.y b.y h) in
    rw (x, y) (parts_within (d - s) d (abs_diff p.x b.x) (abs_diff p.y b.y) (squared_distance a b) (omega arith) near)

pub IsOpenLink-clear_disc : (setup : Setup) (a b : Point) → HasClearDisc setup a b → IsOpenLink setup a b
IsOpenLink-clear_disc setup a b disc = record {
  short = disc.short;
  clear = λ p here near s d positive h. disc.clear (on_the_way p b s d positive) (IsInDisc-way a b p s d positive h near);
}
