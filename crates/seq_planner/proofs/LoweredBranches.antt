-- How a lower cost spreads from a node to its descendants, by the nodes that are still to be lowered.
use Rattle.seq_planner.proofs.Words.{◌≡◌, ℕ, suc, ◌+◌, ◌<◌, ◌≤◌, Bool, cond, List, Option, arith, refl, sym, ap, subst, ◌⊎◌, inl, inr, ◌≢◌, ◌==◌, cases_eq}
use Rattle.seq_planner.proofs.Words.{false_from_ne_true, eq-eqb, eqb-true, Twig, IsBranchLowered, IsPresent, points_of, parent_of}

-- how often a number is counted that is there once or not at all
abbrev pub one_if : Bool → ℕ
one_if b = cond b 1 0

-- the cost of a number has fallen
abbrev pub HasFallen : ℕ → (ℕ → ℕ) → (ℕ → ℕ) → ℕ → Type 0
HasFallen fall costs now n = now n + fall ≡ costs n

-- What is lowered, or is to be: the node itself or a child of what has been lowered.
pub record IsDue (tree : List (Option Twig)) (node fall : ℕ) (costs now : ℕ → ℕ) (n : ℕ) : Type 0 where
  pub child : 0 < n
  pub present : IsPresent (points_of tree) n
  pub above : (n ≡ node) ⊎ HasFallen fall costs now (parent_of tree n)
  pub cost : costs node ≤ costs n

-- Some of the node and its descendants are lowered, and `times` says which ones are to be lowered next, each once.
pub record IsUnderway (tree : List (Option Twig)) (node fall : ℕ) (costs now times : ℕ → ℕ) : Type 0 where
  pub each : (n : ℕ) → (now n ≡ costs n) ⊎ HasFallen fall costs now n
  pub lowered : (n : ℕ) → HasFallen fall costs now n → IsDue tree node fall costs now n
  pub pending : (n : ℕ) → 0 < times n → (now n ≡ costs n) × IsDue tree node fall costs now n
  pub children :
      (n : ℕ) → IsPresent (points_of tree) (suc n) → HasFallen fall costs now (parent_of tree (suc n)) → HasFallen fall costs now (suc n) ⊎ (0 < times (suc n))
  pub top : HasFallen fall costs now node ⊎ (0 < times node)
  pub once : (n : ℕ) → times n ≤ 1

-- ---- at the beginning

-- a number is there once if it is the only one of a list
pub equal_one : (a b : ℕ) → b ≡ a → one_if (a == b) ≡ 1
equal_one a b e = ap one_if (eq-eqb a b (sym e))

pub other_none : (a b : ℕ) → b ≢ a → one_if (a == b) ≡ 0
other_none a b apart = ap one_if (false_from_ne_true (a == b) (λ same. apart (sym (eqb-true a b same))))

-- the node alone is to be lowered
pub IsUnderway-start :
    (tree : List (Option Twig)) (node fall : ℕ) (costs times : ℕ → ℕ) → 0 < fall → 0 < node → IsPresent (points_of tree) node
    → ((n : ℕ) → times n ≡ one_if (node == n)) → IsUnderway tree node fall costs costs times
IsUnderway-start tree node fall costs times some child present one = record {
  each = λ n. inl refl;
  lowered = λ n h. absurd (omega (arith, h, some));
  pending = λ n h. (refl, due n (elim (cases_eq n node) [ inl e ↦ e | inr apart ↦ absurd (omega (arith, h, one n, other_none node n apart)) ]));
  children = λ n here h. absurd (omega (arith, h, some));
  top = inr (omega (arith, one node, equal_one node node refl));
  once = once;
}
  where
    due : (n : ℕ) → n ≡ node → IsDue tree node fall costs costs n
    due n e = record {
      child = omega (arith, child, e);
      present = subst (IsPresent (points_of tree)) (sym e) present;
      above = inl e;
      cost = omega (arith, ap costs e);
    }

    once : (n : ℕ) → times n ≤ 1
    once n =
        elim (cases_eq n node) [
          | inl e ↦ omega (arith, one n, equal_one node n e)
          | inr apart ↦ omega (arith, one n, other_none node n apart)
        ]

-- ---- at the end

module _ (tree : List (Option Twig)) (node fall : ℕ) (costs now times : ℕ → ℕ) where
  module _ (some : 0 < fall) (ends : IsUnderway tree node fall costs now times) (none : (n : ℕ) → times n ≡ 0) where
    same_fall :
        (n : ℕ) → IsPresent (points_of tree) (suc n) → suc n ≢ node
        → now (suc n) + costs (parent_of tree (suc n)) ≡ costs (suc n) + now (parent_of tree (suc n))
    same_fall n here apart =
        elim (ends.each (suc n)) [
          | inl kept ↦ (
              elim (ends.each (parent_of tree (suc n))) [
                | inl above ↦ omega (arith, kept, above)
                | inr above ↦ (
                    elim (ends.children n here above) [
                      | inl fell ↦ absurd (omega (arith, kept, fell, some))
                      | inr waits ↦ absurd (omega (arith, waits, none (suc n)))
                    ])
              ])
          | inr fell ↦ (
              elim (ends.lowered (suc n) fell).above [
                | inl e ↦ absurd (apart e)
                | inr above ↦ omega (arith, fell, above)
              ])
        ]

    -- nothing is to be lowered any more: the node and its descendants are lowered, and all others keep their costs
    pub IsBranchLowered-end : IsBranchLowered (points_of tree) (parent_of tree) node fall costs now
    IsBranchLowered-end = record {
      top = elim ends.top [ inl fell ↦ fell | inr waits ↦ absurd (omega (arith, waits, none node)) ];
      start = elim (ends.each 0) [ inl kept ↦ kept | inr fell ↦ absurd (omega (arith, (ends.lowered 0 fell).child)) ];
      with_parent = same_fall;
      none_rises = λ n. elim (ends.each n) [ inl kept ↦ omega (arith, kept) | inr fell ↦ omega (arith, fell) ];
    }
