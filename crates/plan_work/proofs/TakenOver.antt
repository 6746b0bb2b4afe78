-- One pass takes over others, one after another.
use Rattle.plan_work.proofs.Words.{◌≡◌, ℕ, zero, suc, ◌+◌, ◌<◌, ◌≤◌, List, length, inl, inr, ap, ◌∙◌, arith, length-append, ◌++◌, ◌⊎◌, [], ◌∷◌, All, max}
use Rattle.plan_work.proofs.Words.{slice_index_or, cases_lt, append_assoc, MayClaim, PassState, SharedState, AreBehind-refl, AreBehind-trans, AreBehind, sees}
use Rattle.plan_work.proofs.Words.{share, HasTakenOver}

-- what holds of all of two lists holds of the first, and of the one that comes next
pub All-front : {X : Type 0} (P : X → Type 0) (xs ys : List X) → All P (xs ++ ys) → All P xs
All-front P [] ys all k d low = absurd (omega (arith, low))
All-front P (x ∷ xs) ys all zero d low = all 0 d (omega arith)
All-front P (x ∷ xs) ys all (suc k) d low = All-front P xs ys (λ j e below. all (suc j) e (omega (arith, below))) k d (omega (arith, low))

pub All-next : {X : Type 0} (P : X → Type 0) (xs : List X) (y : X) → All P (xs ++ y ∷ []) → P y
All-next P [] y all = all 0 y (omega arith)
All-next P (x ∷ xs) y all = All-next P xs y (λ j e below. all (suc j) e (omega (arith, below)))

-- a pass alone
pub HasTakenOver-alone : (shared : SharedState) (pass : PassState) → MayClaim shared pass → HasTakenOver shared (pass ∷ []) pass
HasTakenOver-alone shared pass may = record {
  may_claim = may;
  all_shares = omega arith;
  seen = λ k d low. first k d low;
  most = λ limit each. each 0 pass (omega arith);
}
  where
    first : (k : ℕ) (d : PassState) → k < 1 → AreBehind (sees (slice_index_or (pass ∷ []) k d).view) (sees pass.view)
    first zero d low = AreBehind-refl (sees pass.view)
    first (suc k) d low = absurd (omega (arith, low))

-- and one more
pub HasTakenOver-more :
    (shared : SharedState) (taken : List PassState) (pass other after : PassState) → HasTakenOver shared taken pass → MayClaim shared after
    → AreBehind (sees pass.view) (sees after.view) → AreBehind (sees other.view) (sees after.view)
    → share after.view ≡ share pass.view + share other.view → after.view.most ≡ max pass.view.most other.view.most
    → HasTakenOver shared (other ∷ taken) after
HasTakenOver-more shared taken pass other after takes may own its shares most = record {
  may_claim = may;
  all_shares = omega (arith, shares, takes.all_shares);
  seen = each;
  most = λ limit all.
      let less = takes.most limit (λ k d low. all (suc k) d (omega (arith, low))) in
      bounded limit less (all 0 other (omega arith)) (cases_lt pass.view.most other.view.most);
}
  where
    each : (k : ℕ) (d : PassState) → k < suc (length taken) → AreBehind (sees (slice_index_or (other ∷ taken) k d).view) (sees after.view)
    each zero d low = its
    each (suc k) d low =
        AreBehind-trans (sees (slice_index_or taken k d).view) (sees pass.view) (sees after.view) (takes.seen k d (omega (arith, low))) own

    bounded : (limit : ℕ) → pass.view.most ≤ limit → other.view.most ≤ limit
        → (pass.view.most < other.view.most) ⊎ (other.view.most ≤ pass.view.most) → after.view.most ≤ limit
    bounded limit one two (inl less) = omega (arith, most, less, two)
    bounded limit one two (inr more) = omega (arith, most, more, one)

-- the lists stay together
pub taken_next : (all rest : List PassState) (other : PassState) (front taken : List PassState) → all ≡ rest ++ taken → rest ≡ front ++ other ∷ []
    → all ≡ front ++ other ∷ taken
taken_next all rest other front taken one two = one ∙ ap (λ l. l ++ taken) two ∙ append_assoc front (other ∷ []) taken

-- ---- a list of one

-- its last is it
pub only : (rest : List PassState) (last own : PassState) → rest ++ last ∷ [] ≡ own ∷ [] → last ≡ own
only [] last own is = cc
only (first ∷ rest) last own is =
    let long = ap (λ (l : List PassState). length l) is in
    absurd (omega (arith, long, length-append rest (last ∷ [])))

-- so a pass that has taken over one has all of it
pub not_alone :
    (rest taken : List PassState) (other own : PassState) (shared : SharedState) (pass : PassState) → HasTakenOver shared taken pass
    → own ∷ [] ≡ (rest ++ other ∷ []) ++ taken → ⊥
not_alone rest [] other own shared pass takes is = omega (arith, takes.may_claim.part, takes.all_shares)
not_alone rest (one ∷ taken) other own shared pass takes is =
    let long = ap (λ (l : List PassState). length l) is in
    omega (arith, long, length-append (rest ++ other ∷ []) (one ∷ taken), length-append rest (other ∷ []))
