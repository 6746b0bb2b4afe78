-- Texts whose lines have no fault, by a test of each line; and a text is refused at one line and for one kind.
use Rattle.plan_model.proofs.Words.{◌≡◌, ℕ, zero, suc, ◌+◌, ◌<◌, ◌≤◌, Bool, true, List, length, Option, Some, None, inl, inr, ap, refl, arith, ◌&&◌, is_none}
use Rattle.plan_model.proofs.Words.{cases_order, Scene, Kind, lines_of, Format, fault_of_line, IsSoundBelow, FailsAt, Refused, Spells, add-one, below_more}
use Rattle.plan_model.proofs.Words.{and_parts, subst}

-- no line below line n has a fault
unfoldable pub are_sound : Format → List (List ℕ) → ℕ → Bool
are_sound format lines zero = true
are_sound format lines (suc n) = is_none (fault_of_line format lines n) && are_sound format lines n

none_if : (fault : Option Kind) → is_none fault ≡ true → fault ≡ None
none_if None h = refl
none_if (Some kind) h = cc

pub IsSoundBelow-from_test : (format : Format) (lines : List (List ℕ)) (n : ℕ) → are_sound format lines n ≡ true → IsSoundBelow format lines n
unfolding are_sound
IsSoundBelow-from_test format lines zero h = λ i l. absurd (omega arith)
IsSoundBelow-from_test format lines (suc n) h =
    let parts = and_parts (is_none (fault_of_line format lines n)) (are_sound format lines n) h in
    let before = IsSoundBelow-from_test format lines n parts.1 in
    subst (IsSoundBelow format lines) (add-one n)
    (below_more (λ i. fault_of_line format lines i ≡ None) n before (none_if (fault_of_line format lines n) parts.0))

-- no text is refused after a line with a fault
not_later : (format : Format) (text : List ℕ) (i j : ℕ) (kind : Kind) → FailsAt format (lines_of text) i kind → j ≤ length (lines_of text)
    → IsSoundBelow format (lines_of text) j → i < j → ⊥
not_later format text i j kind (inl here) most sound l = let e = sound i l in let f = here.1 in cc
not_later format text i j kind (inr end) most sound l = omega (arith, end.0)

within : (format : Format) (text : List ℕ) (i : ℕ) (kind : Kind) → FailsAt format (lines_of text) i kind → i ≤ length (lines_of text)
within format text i kind (inl here) = omega (arith, here.0)
within format text i kind (inr end) = omega (arith, end.0)

same_stop : (format : Format) (text : List ℕ) (i j : ℕ) (one other : Kind) → FailsAt format (lines_of text) i one → FailsAt format (lines_of text) j other
    → IsSoundBelow format (lines_of text) i → IsSoundBelow format (lines_of text) j → i ≡ j
same_stop format text i j one other p q below_i below_j =
    elim (cases_order i j) [
      | inl e ↦ e
      | inr (inl less) ↦ absurd (not_later format text i j one p (within format text j other q) below_j less)
      | inr (inr more) ↦ absurd (not_later format text j i other q (within format text i one p) below_i more)
    ]

same_kind : (format : Format) (text : List ℕ) (i j : ℕ) (one other : Kind) → i ≡ j → FailsAt format (lines_of text) i one
    → FailsAt format (lines_of text) j other → one ≡ other
same_kind format text i j one other e (inl here) (inl there) =
    let f : fault_of_line format (lines_of text) i ≡ fault_of_line format (lines_of text) j = ap (fault_of_line format (lines_of text)) e in
    let g = here.1 in
    let h = there.1 in
    cc
same_kind format text i j one other e (inl here) (inr there) = absurd (omega (arith, here.0, there.0))
same_kind format text i j one other e (inr here) (inl there) = absurd (omega (arith, here.0, there.0))
same_kind format text i j one other e (inr here) (inr there) = let g = here.1 in let h = there.1 in cc

pub Refused-one_line : (format : Format) (text : List ℕ) (m n : ℕ) (one other : Kind) → Refused format text m one → Refused format text n other → m ≡ n
Refused-one_line format text m n one other p q =
    omega (arith, p.1, q.1, same_stop format text p.0 q.0 one other p.3 q.3 p.2 q.2)

pub Refused-one_kind : (format : Format) (text : List ℕ) (m n : ℕ) (one other : Kind) → Refused format text m one → Refused format text n other → one ≡ other
Refused-one_kind format text m n one other p q =
    same_kind format text p.0 q.0 one other (same_stop format text p.0 q.0 one other p.3 q.3 p.2 q.2) p.3 q.3

no_stop : (format : Format) (text : List ℕ) (scene : Scene) (i : ℕ) (kind : Kind) → Spells format text scene → FailsAt format (lines_of text) i kind → ⊥
no_stop format text scene i kind h (inl here) = let e = h.sound i here.0 in let f = here.1 in cc
no_stop format text scene i kind h (inr end) = let e = h.complete in let f = end.1 in cc

pub Spells-not_refused : (format : Format) (text : List ℕ) (scene : Scene) (n : ℕ) (kind : Kind) → Spells format text scene → Refused format text n kind → ⊥
Spells-not_refused format text scene n kind h r = no_stop format text scene r.0 kind h r.3

pub refused_at_line : (format : Format) (text : List ℕ) (i : ℕ) (kind : Kind) → are_sound format (lines_of text) i ≡ true → i < length (lines_of text)
    → fault_of_line format (lines_of text) i ≡ Some kind → Refused format text (i + 1) kind
refused_at_line format text i kind sound l e =
    (i, refl, IsSoundBelow-from_test format (lines_of text) i sound, inl (l, e))
