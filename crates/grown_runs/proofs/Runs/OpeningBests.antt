-- The least pair of the goal nodes of a run, found among its nodes one after another.
use Rattle.grown_runs.proofs.Words.{◌≡◌, ℕ, ◌+◌, ◌<◌, ◌≤◌, ◌^◌, Bool, true, false, List, [], refl, sym, ap, ◌∙◌, subst, inl, inr, arith, min, ◌≢◌, cond}
use Rattle.grown_runs.proofs.Words.{cases_eq, cases_lt, div-mul-add, mod-mul-add, IsGoalNode, is_goal_point, point_at, TreeState, Goal, best_cost_in}
use Rattle.grown_runs.proofs.Words.{best_node_in, best_word, no_best}

-- what holds of two numbers holds of the lesser
pub min-either : (P : ℕ → Type 0) (a b : ℕ) → P a → P b → P (min a b)
min-either P a b of_a of_b =
    elim (cases_lt a b) [
      | inl less ↦ subst P (omega (arith, less)) of_a
      | inr enough ↦ subst P (omega (arith, enough)) of_b
    ]

-- a word that is a pair is that of a goal node, and has its cost
abbrev IsPairOf : List Goal → TreeState → ℕ → Type 0
IsPairOf goals state word = word ≢ no_best → IsGoalNode goals state.points (best_node_in word) × (state.cost (best_node_in word) ≡ best_cost_in word)

-- the least pair of the goal nodes with a number below m
pub record IsLeastBelow (goals : List Goal) (state : TreeState) (m word : ℕ) : Type 0 where
  pub pair : IsPairOf goals state word
  pub least : (n : ℕ) → n < m → IsGoalNode goals state.points n → word ≤ best_word (state.cost n) n

-- one node more
pub IsLeastBelow-more :
    (goals : List Goal) (state : TreeState) (m word next : ℕ) → m < 2 ^ 18 → IsLeastBelow goals state m word
    → next ≡ cond (is_goal_point goals (point_at state.points m)) (best_word (state.cost m) m) no_best → IsLeastBelow goals state (m + 1) (min word next)
IsLeastBelow-more goals state m word next small so_far is = by_test (is_goal_point goals (point_at state.points m)) refl is
  where
    own_pair : IsGoalNode goals state.points m → IsPairOf goals state (best_word (state.cost m) m)
    own_pair goal some_pair =
        let node : best_node_in (best_word (state.cost m) m) ≡ m = mod-mul-add (state.cost m) (2 ^ 18) m small in
        let paid : best_cost_in (best_word (state.cost m) m) ≡ state.cost m = div-mul-add (state.cost m) (2 ^ 18) m small in
        (subst (IsGoalNode goals state.points) (sym node) goal, ap state.cost node ∙ sym paid)

    by_test :
        (b : Bool) → is_goal_point goals (point_at state.points m) ≡ b → next ≡ cond b (best_word (state.cost m) m) no_best
        → IsLeastBelow goals state (m + 1) (min word next)
    by_test true goal e = record {
      pair = min-either (IsPairOf goals state) word next so_far.pair (subst (IsPairOf goals state) (sym e) (own_pair goal));
      least = λ n low own.
          elim (cases_eq n m) [
            | inl same ↦ omega (arith, e, ap (λ i. best_word (state.cost i) i) same)
            | inr apart ↦ omega (arith, so_far.least n (omega (arith, low, apart)) own)
          ];
    }
    by_test false none e = record {
      pair = min-either (IsPairOf goals state) word next so_far.pair (λ some_pair. absurd (some_pair e));
      least = λ n low own.
          elim (cases_eq n m) [
            | inl same ↦ (let no = sym (ap (λ i. is_goal_point goals (point_at state.points i)) same ∙ none) ∙ own in cc)
            | inr apart ↦ omega (arith, so_far.least n (omega (arith, low, apart)) own)
          ];
    }
