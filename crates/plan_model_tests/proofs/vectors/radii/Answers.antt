-- A radius passes its test and the number after it does not, so that no number above has to be tried.
use Rattle.plan_model_tests.proofs.Words.{◌≡◌, ℕ, suc, ◌-◌, ◌*◌, ◌^◌, ◌≤◌, Option, Some, None, List, [], ◌∷◌, map, leb, le-leb, true, false, refl, sym, arith}
use Rattle.plan_model_tests.proofs.Words.{inl, inr, cases_order, mul-le, greatest, radius_of_class, greatest-unique, first_classes}
use Rattle.std.proofs.Common.{leb-true, leb-false}
use Rattle.plan_model_tests.proofs.Decisions.{agree, if_so, if_there, value_of}
use Rattle.plan_model_tests.proofs.vectors.radii.Goals as goal

-- the product grows with the number
product_grows : (p r s : ℕ) → r ≤ s → r * r * p ≤ s * s * p
product_grows p r s l = mul-le (r * r) p (s * s) p (mul-le r r s s l l) (omega arith)

-- no greater number passes if the next one does not
none_above : (p g r s : ℕ) → leb (suc r * suc r * p) g ≡ false → leb (s * s * p) g ≡ true → s ≤ r
none_above p g r s fails passes =
    elim (cases_order s r) [
      | inl same ↦ omega arith
      | inr (inl less) ↦ omega arith
      | inr (inr more) ↦
          absurd (omega (arith, product_grows p (suc r) s (omega arith), leb-false (suc r * suc r * p) g fails, leb-true (s * s * p) g passes))
    ]

greatest-is : (step p g r : ℕ) → r ≤ step → leb (r * r * p) g ≡ true → leb (suc r * suc r * p) g ≡ false → greatest (λ s. leb (s * s * p) g) step ≡ r
greatest-is step p g r within passes fails =
    sym (
    greatest-unique (λ s. leb (s * s * p) g) step r (le-leb (0 * 0 * p) g (omega arith)) within passes
    (λ s l t. none_above p g r s fails t)
    )

radius_is : (gamma b r : ℕ) → leb r 4096 ≡ true → leb (r * r * 2 ^ (b - 1)) (gamma * gamma * b) ≡ true
    → leb (suc r * suc r * 2 ^ (b - 1)) (gamma * gamma * b) ≡ false → radius_of_class 4096 gamma b ≡ r
radius_is gamma b r within = greatest-is 4096 (2 ^ (b - 1)) (gamma * gamma * b) r (leb-true r 4096 within)

abbrev radii_by : (gamma : ℕ) (classes radii : List ℕ) → Option (map (radius_of_class 4096 gamma) classes ≡ radii)
radii_by gamma [] [] = Some refl
radii_by gamma [] (r ∷ radii) = None
radii_by gamma (b ∷ classes) [] = None
radii_by gamma (b ∷ classes) (r ∷ radii) =
    if_so (agree (leb r 4096) true) (λ within.
    if_so (agree (leb (r * r * 2 ^ (b - 1)) (gamma * gamma * b)) true) (λ passes.
    if_so (agree (leb (suc r * suc r * 2 ^ (b - 1)) (gamma * gamma * b)) false) (λ fails.
    if_there (radii_by gamma classes radii) (λ rest.
    Some (λ i. radius_is gamma b r within passes fails i ∷ rest i)))))

pub returns : goal.returns
returns c = record {
  falling = value_of (radii_by 1000 first_classes (1000 ∷ 1000 ∷ 866 ∷ 707 ∷ 559 ∷ 433 ∷ 330 ∷ 250 ∷ 187 ∷ 139 ∷ [])) refl;
  bounded = refl;
  none = value_of (radii_by 0 first_classes (0 ∷ 0 ∷ 0 ∷ 0 ∷ 0 ∷ 0 ∷ 0 ∷ 0 ∷ 0 ∷ 0 ∷ [])) refl;
  classes = refl;
  least_gamma = refl;
  greatest_gamma = refl;
  no_class = radius_is 1000 0 0 refl refl refl;
  of_nodes = value_of (radii_by 1000 (2 ∷ 3 ∷ 3 ∷ 4 ∷ []) (1000 ∷ 866 ∷ 866 ∷ 707 ∷ [])) refl;
}
