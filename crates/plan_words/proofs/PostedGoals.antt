-- Goal nodes of which the best word is at most the pair: what steps of a pass leave of that.
use Rattle.plan_words.proofs.Words.{◌≡◌, ◌≢◌, ℕ, ◌≤◌, arith, inl, inr, sym, ap, subst, IsTrue, cases_eq, is_goal_point, point_at, PointOf, TreeOf}
use Rattle.plan_words.proofs.Words.{best_word, cost_in, HasPostedGoals, SeesAsBefore, PostsChanged, SeesSamePoints, GoesOn, IsLater, SeesGoal, sees, tree_seen}
use Rattle.plan_words.proofs.Words.{point_at-kept, SharedRun, View}

-- ---- goals

-- a goal node whose point is seen as before was one before
pub SeesGoal-kept : (before after : View) (n : ℕ) → IsLater before after → sees after (PointOf n) ≡ sees before (PointOf n)
    → SeesGoal after n → SeesGoal before n
SeesGoal-kept before after n later same goal =
    subst (λ (r : SharedRun). IsTrue (is_goal_point r.goals (point_at (tree_seen before).points n))) later.run
    (subst (λ o. IsTrue (is_goal_point after.run.goals o)) (point_at-kept before after n later same) goal)

-- ---- steps

module _ (before after : View) (later : IsLater before after) where
  -- no point is seen anew, and each goal node that is seen with another parent or cost is posted
  pub HasPostedGoals-step : SeesSamePoints before after
      → ((n : ℕ) → SeesGoal before n → sees after (TreeOf n) ≢ sees before (TreeOf n) → after.best ≤ best_word (cost_in (sees after (TreeOf n))) n)
      → HasPostedGoals before → HasPostedGoals after
  HasPostedGoals-step points changed posted n goal written =
      let was = SeesGoal-kept before after n later (points n) goal in
      elim (cases_eq (sees after (TreeOf n)) (sees before (TreeOf n))) [
        | inl same ↦
            omega (arith, posted n was (omega (arith, written, same)), later.best, ap (λ w. best_word (cost_in w) n) same)
        | inr other ↦ changed n was other
      ]

  -- only of this node a point, a parent or a cost is seen anew, and if it is a goal node it is posted
  pub HasPostedGoals-more : (m : ℕ) → ((n : ℕ) → n ≢ m → sees after (PointOf n) ≡ sees before (PointOf n))
      → ((n : ℕ) → n ≢ m → sees after (TreeOf n) ≡ sees before (TreeOf n))
      → (SeesGoal after m → after.best ≤ best_word (cost_in (sees after (TreeOf m))) m) → HasPostedGoals before → HasPostedGoals after
  HasPostedGoals-more m points pairs here posted n goal written =
      elim (cases_eq n m) [
        | inl e ↦
            subst (λ i. after.best ≤ best_word (cost_in (sees after (TreeOf i))) i) (sym e) (here (subst (SeesGoal after) e goal))
        | inr apart ↦
            omega (
              arith,
              posted n (SeesGoal-kept before after n later (points n apart) goal) (omega (arith, written, pairs n apart)),
              later.best,
              ap (λ w. best_word (cost_in w) n) (pairs n apart),
            )
      ]

-- no word is seen anew
pub HasPostedGoals-same : (before after : View) → GoesOn before after → SeesAsBefore before after → HasPostedGoals before → HasPostedGoals after
HasPostedGoals-same before after goes_on same =
    HasPostedGoals-step before after goes_on.later (λ n. same (PointOf n)) (λ n goal changed. absurd (changed (same (TreeOf n))))

-- children are lowered
pub HasPostedGoals-children : (before after : View) → GoesOn before after → SeesSamePoints before after → PostsChanged (λ n. ⊥) before after
    → HasPostedGoals before → HasPostedGoals after
HasPostedGoals-children before after goes_on points posted =
    HasPostedGoals-step before after goes_on.later points (λ n goal changed. posted n (λ no. no) changed goal)
