-- The first numbers that break laws: of two laws, of laws that say the same, and of a law that no number repeats an earlier one.
use Rattle.report_judge.proofs.Words.{◌≡◌, ℕ, ◌<◌, true, false, eqb, List, length, take, get_or, Option, Some, None, arith, sym, ◌∙◌, subst, inl, inr, min}
use Rattle.report_judge.proofs.Words.{list_any, cases_lt, eq-eqb, eqb-true, true≢false, get_or-take, length-take-le, Any-from_list_any, list_any_at}
use Rattle.report_judge.proofs.Words.{slice_get-get_or, IsFirstBreak, IsNewKey, earlier_of}

-- The first number that breaks one of two laws is the lesser of those that break each first.
pub IsFirstBreak-earlier : (Keeps Others : ℕ → Type 0) (limit : ℕ) (one other : Option ℕ) → IsFirstBreak Keeps limit one
    → IsFirstBreak Others limit other → IsFirstBreak (λ k. Keeps k × Others k) limit (earlier_of one other)
IsFirstBreak-earlier Keeps Others limit None None h g = λ k low. (h k low, g k low)
IsFirstBreak-earlier Keeps Others limit None (Some j) h g = (g.0, λ k low. (h k (omega (arith, low, g.0)), g.1 k low), λ both. g.2 both.1)
IsFirstBreak-earlier Keeps Others limit (Some i) None h g = (h.0, λ k low. (h.1 k low, g k (omega (arith, low, h.0))), λ both. h.2 both.0)
IsFirstBreak-earlier Keeps Others limit (Some i) (Some j) h g =
    elim (cases_lt i j) [
      | inl less ↦ (
          let first : i ≡ min i j = omega (arith, less) in
          subst (λ n. IsFirstBreak (λ k. Keeps k × Others k) limit (Some n)) first
          (h.0, λ k low. (h.1 k low, g.1 k (omega (arith, low, less))), λ both. h.2 both.0))
      | inr past ↦ (
          let first : j ≡ min i j = omega (arith, past) in
          subst (λ n. IsFirstBreak (λ k. Keeps k × Others k) limit (Some n)) first
          (g.0, λ k low. (h.1 k (omega (arith, low, past)), g.1 k low), λ both. g.2 both.1))
    ]

-- Laws that say the same of each number are first broken by the same one.
pub IsFirstBreak-same : (Keeps Others : ℕ → Type 0) (limit : ℕ) → ((k : ℕ) → k < limit → Keeps k → Others k)
    → ((k : ℕ) → k < limit → Others k → Keeps k) → (first : Option ℕ) → IsFirstBreak Keeps limit first → IsFirstBreak Others limit first
IsFirstBreak-same Keeps Others limit on back None h = λ k low. on k low (h k low)
IsFirstBreak-same Keeps Others limit on back (Some i) h =
    (h.0, λ k low. on k (omega (arith, low, h.0)) (h.1 k low), λ kept. h.2 (back i h.0 kept))

-- a number that is not found among the earlier ones is new
pub IsNewKey-none : (keys : List ℕ) (k : ℕ) → k < length keys → list_any (eqb (get_or keys k 0)) (take k keys) ≡ false → IsNewKey keys k
IsNewKey-none keys k low none = λ j before e.
    let same : eqb (get_or keys k 0) (get_or (take k keys) j 0) ≡ true =
    eq-eqb (get_or keys k 0) (get_or (take k keys) j 0) (sym e ∙ sym (get_or-take k keys j 0 before)) in
    let within : j < length (take k keys) = omega (arith, before, length-take-le k keys (omega (arith, low))) in
    true≢false (sym (list_any_at (eqb (get_or keys k 0)) (take k keys) j 0 within same) ∙ none)

-- and one that is found is not
pub IsNewKey-some : (keys : List ℕ) (k : ℕ) → k < length keys → list_any (eqb (get_or keys k 0)) (take k keys) ≡ true → IsNewKey keys k → ⊥
IsNewKey-some keys k low some new =
    let found = Any-from_list_any (eqb (get_or keys k 0)) (take k keys) some in
    let before : found.0 < k = omega (arith, found.2, length-take-le k keys (omega (arith, low))) in
    let one = slice_get-get_or (take k keys) found.0 0 found.2 in
    let other = slice_get-get_or (take k keys) found.0 found.1 found.2 in
    let both : Some (get_or (take k keys) found.0 0) ≡ Some (get_or (take k keys) found.0 found.1) = sym one ∙ other in
    let value : get_or (take k keys) found.0 0 ≡ get_or (take k keys) found.0 found.1 = cc in
    new found.0 before
    (sym (get_or-take k keys found.0 0 before) ∙ value ∙ found.3 ∙ sym (eqb-true (get_or keys k 0) found.1 found.4))
