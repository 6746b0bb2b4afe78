-- A node that was placed is posted if it lies in a goal by which marks are skipped: what that leaves of the pass.
use Rattle.plan_work.proofs.Words.{◌≡◌, ℕ, suc, ◌≤◌, ◌⊎◌, Bool, true, false, Some, cond, inl, inr, refl, sym, ap, ◌∙◌, subst, arith, cases_Bool, eq-eqb}
use Rattle.plan_work.proofs.Words.{GoesOnPlacing, IsPlaced, KeepsShare, lies_in_goals, Point, cost_in-tree_word, FirstOf, TreeOf, best_word, cost_in}
use Rattle.plan_work.proofs.Words.{GoesOn-trans, SeesAsBefore, SeesBestSince, SeesBestSince-trans, GoesOn, PassState, with_view, HasBeenPlaced, placed_hand}
use Rattle.plan_work.proofs.Words.{placed_stage, hand_with_post, last_note, with_post, SeesPoint, sees, Hand, SharedRun, Counted, Posted, View}

-- node n at p was posted if it lies in such a goal, and else nothing was done
pub record PostsGoalNode (mid after : PassState) (p : Point) (n : ℕ) : Type 0 where
  pub goes_on : GoesOn mid.view after.view
  pub best : SeesBestSince mid.view after.view
  pub in_goal : lies_in_goals mid.view.run.goals p ≡ true
      → (after ≡ with_view mid (with_post mid.view n after.view.best (last_note after.view)))
      × (after.view.best ≤ best_word (cost_in (sees mid.view (TreeOf n))) n)
  pub elsewhere : lies_in_goals mid.view.run.goals p ≡ false → after ≡ mid

module _ (mid after : PassState) (p : Point) (n : ℕ) (posts : PostsGoalNode mid after p n) where
  cases : (lies_in_goals mid.view.run.goals p ≡ true) ⊎ (lies_in_goals mid.view.run.goals p ≡ false)
  cases = cases_Bool (lies_in_goals mid.view.run.goals p)

  then : lies_in_goals mid.view.run.goals p ≡ true → after.view ≡ with_post mid.view n after.view.best (last_note after.view)
  then lies = ap (λ (q : PassState). q.view) (posts.in_goal lies).0

  still : lies_in_goals mid.view.run.goals p ≡ false → after.view ≡ mid.view
  still off = ap (λ (q : PassState). q.view) (posts.elsewhere off)

  -- what no post changes is kept,
  kept : {T : Type 0} (f : View → T) → f (with_post mid.view n after.view.best (last_note after.view)) ≡ f mid.view → f after.view ≡ f mid.view
  kept f same = elim cases [
    | inl lies ↦ ap f (then lies) ∙ same
    | inr off ↦ ap f (still off)
  ]

  -- so no word is seen anew
  pub same_words : SeesAsBefore mid.view after.view
  same_words name = kept (λ v. sees v name) refl

  pub view_alone : after ≡ with_view mid after.view
  view_alone = elim cases [
    | inl lies ↦ (posts.in_goal lies).0 ∙ ap (with_view mid) (sym (then lies))
    | inr off ↦ posts.elsewhere off ∙ ap (with_view mid) (sym (still off))
  ]

  pub KeepsShare-posted : KeepsShare mid.view after.view
  KeepsShare-posted = record { crew = kept (λ v. v.crew) refl; most = kept (λ v. v.most) refl }

  module _ (hand : Hand) (placed : IsPlaced mid.view hand) (at : hand.point ≡ p) (node : suc hand.mark ≡ n) where
    abbrev counted : Hand
    counted = record hand { stage = Counted }

    stands : SeesPoint after.view (suc hand.mark) hand.point
    stands = elim cases [
      | inl lies ↦ subst (λ v. SeesPoint v (suc hand.mark) hand.point) (sym (then lies)) placed.stands
      | inr off ↦ subst (λ v. SeesPoint v (suc hand.mark) hand.point) (sym (still off)) placed.stands
    ]

    goals : after.view.run.goals ≡ mid.view.run.goals
    goals = ap (λ (r : SharedRun). r.goals) posts.goes_on.later.run

    stage : (lies : Bool) → lies_in_goals mid.view.run.goals p ≡ lies → placed_stage after.view.run.goals hand.point ≡ cond lies Posted Counted
    stage lies e = ap (λ gs. placed_stage gs hand.point) goals ∙ ap (placed_stage mid.view.run.goals) at ∙ ap (λ b. cond b Posted Counted) e

    -- a counted node in hand is posted by that
    noted : hand_with_post (Some counted) n ≡ Some (record hand { stage = Posted })
    noted = ap (λ b. Some (cond b (record hand { stage = Posted }) counted)) (eq-eqb (suc hand.mark) n node)

    held : after.view.hand ≡ Some (placed_hand after.view hand)
    held = elim cases [
      | inl lies ↦
          ap (λ (v : View). v.hand) (then lies) ∙ ap (λ o. hand_with_post o n) placed.counted ∙ noted
          ∙ ap (λ s. Some (record hand { stage = s })) (sym (stage true lies))
      | inr off ↦ ap (λ (v : View). v.hand) (still off) ∙ placed.counted ∙ ap (λ s. Some (record hand { stage = s })) (sym (stage false off))
    ]

    best : lies_in_goals after.view.run.goals hand.point ≡ true → after.view.best ≤ best_word hand.cost (suc hand.mark)
    best lies =
        let here : lies_in_goals mid.view.run.goals p ≡ true = subst (λ q. lies_in_goals mid.view.run.goals q ≡ true) at
        (subst (λ gs. lies_in_goals gs hand.point ≡ true) goals lies) in
        let fits = posts.goes_on.was_lawful.pair_fits counted placed.counted refl in
        let cost : cost_in (sees mid.view (TreeOf (suc hand.mark))) ≡ hand.cost =
        ap cost_in placed.pair ∙ cost_in-tree_word hand.parent hand.cost fits.0 fits.1 in
        let low : after.view.best ≤ best_word (cost_in (sees mid.view (TreeOf (suc hand.mark)))) (suc hand.mark) =
        subst (λ i. after.view.best ≤ best_word (cost_in (sees mid.view (TreeOf i))) i) (sym node) (posts.in_goal here).1 in
        omega (arith, low, cost)

    pub HasBeenPlaced-posted : HasBeenPlaced after.view hand
    HasBeenPlaced-posted = record {
      stands = stands;
      pair = same_words (TreeOf (suc hand.mark)) ∙ placed.pair;
      first = same_words (FirstOf (suc hand.mark)) ∙ placed.first;
      counted = held;
      posted = best;
    }

-- after a node was placed
pub GoesOnPlacing-posted : (before mid after : View) → GoesOnPlacing before mid → GoesOn mid after → SeesBestSince mid after → SeesAsBefore mid after
    → GoesOnPlacing before after
GoesOnPlacing-posted before mid after placing goes_on best same = record {
  goes_on = GoesOn-trans before mid after placing.goes_on goes_on;
  others = λ name other. same name ∙ placing.others name other;
  best = SeesBestSince-trans before mid after placing.goes_on goes_on placing.best best;
}

pub KeepsShare-trans : (before mid after : View) → KeepsShare before mid → KeepsShare mid after → KeepsShare before after
KeepsShare-trans before mid after one other = record { crew = other.crew ∙ one.crew; most = other.most ∙ one.most }
