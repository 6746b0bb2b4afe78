-- A part of a segment that is clipped at one end.
use Rattle.swept_check.proofs.Words.{◌≡◌, ℕ, ◌+◌, ◌*◌, ◌≤◌, subst, sym, ℤ, ◌↔◌, Fraction, IsBetweenFractions, IsAdmitted}

-- the exit is clipped at a of a + b parts
pub clipped_exit :
    (entry exit part now : Fraction) (f t : ℤ) (s d a b : ℕ) → part.numerator ≡ a → part.denominator ≡ a + b
    → (s * now.denominator ≤ now.numerator * d) ↔ ((s * exit.denominator ≤ exit.numerator * d) × (s * part.denominator ≤ part.numerator * d))
    → IsAdmitted f t s d ↔ (s * (a + b) ≤ a * d)
    → IsBetweenFractions entry now s d ↔ (IsBetweenFractions entry exit s d × IsAdmitted f t s d)
clipped_exit entry exit part now f t s d a b over under least admitted =
    let P : ℕ → Type 0 = λ n. s * n ≤ part.numerator * d in
    let Q : ℕ → Type 0 = λ n. s * (a + b) ≤ n * d in (
      λ h. (let both = least.0 h.before_exit in
          (record { after_entry = h.after_entry; before_exit = both.0 }, admitted.1 (subst Q over (subst P under both.1)))),
      λ h. record {
        after_entry = h.0.after_entry;
        before_exit = least.1 (h.0.before_exit, subst P (sym under) (subst Q (sym over) (admitted.0 h.1)));
      },
    )

-- the entry is clipped at a of a + b parts
pub clipped_entry :
    (entry exit part now : Fraction) (f t : ℤ) (s d a b : ℕ) → part.numerator ≡ a → part.denominator ≡ a + b
    → (now.numerator * d ≤ s * now.denominator) ↔ ((entry.numerator * d ≤ s * entry.denominator) × (part.numerator * d ≤ s * part.denominator))
    → IsAdmitted f t s d ↔ (a * d ≤ s * (a + b))
    → IsBetweenFractions now exit s d ↔ (IsBetweenFractions entry exit s d × IsAdmitted f t s d)
clipped_entry entry exit part now f t s d a b over under greatest admitted =
    let P : ℕ → Type 0 = λ n. part.numerator * d ≤ s * n in
    let Q : ℕ → Type 0 = λ n. n * d ≤ s * (a + b) in (
      λ h. (let both = greatest.0 h.after_entry in
          (record { after_entry = both.0; before_exit = h.before_exit }, admitted.1 (subst Q over (subst P under both.1)))),
      λ h. record {
        after_entry = greatest.1 (h.0.after_entry, subst P (sym under) (subst Q (sym over) (admitted.0 h.1)));
        before_exit = h.0.before_exit;
      },
    )
