-- A linear function along a segment, by its values at the ends.
use Rattle.swept_check.proofs.Words.{◌≡◌, ℕ, suc, ◌+◌, ◌-◌, ◌*◌, ◌<◌, ◌≤◌, arith, subst, inl, inr, ℤ, pos, negsuc, ◌+ℤ◌, ◌*ℤ◌, ◌≤ℤ◌, ◌<ℤ◌, ◌↔◌, unsigned_abs}
use Rattle.swept_check.proofs.Words.{ints, cases_lt, mul-pos, part_and_rest, value_at, IsAdmitted, var, plus, minus, times, same}

-- a value on the way is a mean of those at the ends, d = s + k
value_at-parts : (f t : ℤ) (s k : ℕ) → value_at f t s (s + k) ≡ (pos k *ℤ f) +ℤ (pos s *ℤ t)
value_at-parts f t s k =
    same
    (plus (times (var (pos (s + k))) (var f)) (times (var (pos s)) (minus (var t) (var f))))
    (plus (times (var (pos k)) (var f)) (times (var (pos s)) (var t)))
    (omega arith)

value_at-mean : (f t : ℤ) (s d : ℕ) → s ≤ d → value_at f t s d ≡ (pos (d - s) *ℤ f) +ℤ (pos s *ℤ t)
value_at-mean f t s d l =
    let whole : s + (d - s) ≡ d = omega arith in
    subst (λ n. value_at f t s n ≡ (pos (d - s) *ℤ f) +ℤ (pos s *ℤ t)) whole (value_at-parts f t s (d - s))

-- not below 0 at both ends: never below 0
pub IsAdmitted-inside : (f t : ℤ) (s d : ℕ) → pos 0 ≤ℤ f → pos 0 ≤ℤ t → s ≤ d → IsAdmitted f t s d
IsAdmitted-inside (pos f) (pos t) s d h g l = rw (value_at-mean (pos f) (pos t) s d l) (omega (arith, ints))
IsAdmitted-inside (negsuc f) t s d h g l = absurd (omega (arith, ints))
IsAdmitted-inside (pos f) (negsuc t) s d h g l = absurd (omega (arith, ints))

-- below 0 at both ends: always below 0
pub IsAdmitted-outside : (f t : ℤ) (s d : ℕ) → f <ℤ pos 0 → t <ℤ pos 0 → 0 < d → s ≤ d → ¬ IsAdmitted f t s d
IsAdmitted-outside (negsuc f) (negsuc t) s d h g p l = λ yes.
    let mean = value_at-mean (negsuc f) (negsuc t) s d l in
    let low : pos 0 ≤ℤ ((pos (d - s) *ℤ negsuc f) +ℤ (pos s *ℤ negsuc t)) = rw mean at yes in
    elim (cases_lt 0 s) [
      | inl some ↦ absurd (omega (arith, ints, mul-pos some (let q : 0 < suc t = omega arith in q)))
      | inr none ↦ (let left : 0 < d - s = omega arith in absurd (omega (arith, ints, mul-pos left (let q : 0 < suc f = omega arith in q))))
    ]
IsAdmitted-outside (pos f) t s d h g p l = absurd (omega (arith, ints))
IsAdmitted-outside (negsuc f) (pos t) s d h g p l = absurd (omega (arith, ints))

-- entering: from the share of the part outside on
pub IsAdmitted-entering : (f t : ℤ) (s d : ℕ) → f <ℤ pos 0 → pos 0 ≤ℤ t → s ≤ d
    → IsAdmitted f t s d ↔ (unsigned_abs f * d ≤ s * (unsigned_abs f + unsigned_abs t))
IsAdmitted-entering (negsuc f) (pos t) s d h g l =
    let mean = value_at-mean (negsuc f) (pos t) s d l in
    let whole : (d - s) * suc f + s * suc f ≡ d * suc f = part_and_rest s d (suc f) l in (
      λ yes. (let low : pos 0 ≤ℤ ((pos (d - s) *ℤ negsuc f) +ℤ (pos s *ℤ pos t)) = rw mean at yes in omega (arith, ints)),
      λ past. rw mean (omega (arith, ints)),
    )
IsAdmitted-entering (pos f) t s d h g l = absurd (omega (arith, ints))
IsAdmitted-entering (negsuc f) (negsuc t) s d h g l = absurd (omega (arith, ints))

-- leaving: up to the share of the part inside
pub IsAdmitted-leaving : (f t : ℤ) (s d : ℕ) → pos 0 ≤ℤ f → t <ℤ pos 0 → s ≤ d
    → IsAdmitted f t s d ↔ (s * (unsigned_abs f + unsigned_abs t) ≤ unsigned_abs f * d)
IsAdmitted-leaving (pos f) (negsuc t) s d h g l =
    let mean = value_at-mean (pos f) (negsuc t) s d l in
    let whole : (d - s) * f + s * f ≡ d * f = part_and_rest s d f l in (
      λ yes. (let low : pos 0 ≤ℤ ((pos (d - s) *ℤ pos f) +ℤ (pos s *ℤ negsuc t)) = rw mean at yes in omega (arith, ints)),
      λ before. rw mean (omega (arith, ints)),
    )
IsAdmitted-leaving (negsuc f) t s d h g l = absurd (omega (arith, ints))
IsAdmitted-leaving (pos f) (pos t) s d h g l = absurd (omega (arith, ints))
