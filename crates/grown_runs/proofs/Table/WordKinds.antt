-- A word may stay as it is, what may become of it in two steps may become of it in one, and nothing comes back that has changed.
use Rattle.grown_runs.proofs.Words.{◌≡◌, ℕ, ◌<◌, ◌≤◌, ◌^◌, arith, refl, sym, ◌∙◌, subst, inl, inr, ◌≢◌, cost_in, Words, WordKind, kind_of, MayBecome, AreBehind}
use Rattle.grown_runs.proofs.Words.{Rising, Once, Falling, Apart}

pub MayBecome-refl : (kind : WordKind) (word : ℕ) → MayBecome kind word word
MayBecome-refl Rising word = omega arith
MayBecome-refl Once word = inr refl
MayBecome-refl Falling word = inr (inl refl)
MayBecome-refl Apart word = tt

pub MayBecome-trans : (kind : WordKind) (word later last : ℕ) → MayBecome kind word later → MayBecome kind later last → MayBecome kind word last
MayBecome-trans Rising word later last first next = omega (arith, first, next)
MayBecome-trans Once word later last (inl none) next = inl none
MayBecome-trans Once word later last (inr same) next = subst (λ w. MayBecome Once w last) (sym same) next
MayBecome-trans Falling word later last (inl none) next = inl none
MayBecome-trans Falling word later last (inr (inl same)) next = subst (λ w. MayBecome Falling w last) (sym same) next
MayBecome-trans Falling word later last (inr (inr lower)) (inl none) = absurd (omega (arith, lower.0, none))
MayBecome-trans Falling word later last (inr (inr lower)) (inr (inl same)) =
    inr (inr (subst (λ w. (2 ^ 63 ≤ w) × (cost_in w < cost_in word)) same lower))
MayBecome-trans Falling word later last (inr (inr lower)) (inr (inr lowest)) = inr (inr (lowest.0, omega (arith, lowest.1, lower.1)))
MayBecome-trans Apart word later last first next = tt

-- two words that may become each other are one, of all kinds but one
pub MayBecome-both : (kind : WordKind) → kind ≢ Apart → (word other : ℕ) → MayBecome kind word other → MayBecome kind other word → other ≡ word
MayBecome-both Rising told word other on back = omega (arith, on, back)
MayBecome-both Once told word other (inr same) back = sym same
MayBecome-both Once told word other (inl none) (inr same) = same
MayBecome-both Once told word other (inl none) (inl none_too) = none_too ∙ sym none
MayBecome-both Falling told word other (inr (inl same)) back = sym same
MayBecome-both Falling told word other (inl none) (inr (inl same)) = same
MayBecome-both Falling told word other (inl none) (inl none_too) = none_too ∙ sym none
MayBecome-both Falling told word other (inl none) (inr (inr lower)) = absurd (omega (arith, lower.0, none))
MayBecome-both Falling told word other (inr (inr lower)) (inr (inl same)) = same
MayBecome-both Falling told word other (inr (inr lower)) (inl none) = absurd (omega (arith, lower.0, none))
MayBecome-both Falling told word other (inr (inr lower)) (inr (inr lowest)) = absurd (omega (arith, lower.1, lowest.1))
MayBecome-both Apart told word other on back = absurd (told refl)

-- so it is with all words
pub AreBehind-refl : (words : Words) → AreBehind words words
AreBehind-refl words name = MayBecome-refl (kind_of name) (words name)

pub AreBehind-trans : (words later last : Words) → AreBehind words later → AreBehind later last → AreBehind words last
AreBehind-trans words later last first next name =
    MayBecome-trans (kind_of name) (words name) (later name) (last name) (first name) (next name)
