-- A mark that is not skipped stays so while other things are seen anew; the hand whose node is placed has posted it if it lies in a goal.
use Rattle.plan_work.proofs.Words.{◌≡◌, suc, Bool, true, false, List, Some, cond, inl, inr, refl, sym, ap, ◌∙◌, subst, ◌<◌, ◌==◌, true≢false, mark_at}
use Rattle.plan_work.proofs.Words.{mark_bound, lies_in_goals, Goal, Point, best_cost_in, GoesOn, IsOrPosted, placed_hand, placed_stage, IsInformed, IsUnskipped}
use Rattle.plan_work.proofs.Words.{hand_with_post, has_count, has_first, post_noted, setup_in, Hand, SharedRun, Stage, Counted, Posted, View}

-- it depends on the run, the mark and the best in hand
pub IsUnskipped-kept : (before after : View) (hand now : Hand) → after.run ≡ before.run → now.best ≡ hand.best → now.mark ≡ hand.mark
    → IsUnskipped before hand → IsUnskipped after now
IsUnskipped-kept before after hand now run best mark unskipped informed =
    let was = unskipped (subst IsInformed run informed) in (
      was.0,
      best ∙ was.1,
      λ some.
          subst (λ (r : SharedRun). mark_bound (setup_in r) (mark_at r.marks now.mark) < best_cost_in was.0) (sym run)
          (subst (λ m. mark_bound (setup_in before.run) (mark_at before.run.marks m) < best_cost_in was.0) (sym mark) (was.2 some)),
    )

-- ---- placed hands

-- a placed node is counted, and has its first word
pub has_count-placed : (goals : List Goal) (p : Point) → has_count (placed_stage goals p) ≡ true
has_count-placed goals p = elim (lies_in_goals goals p) as (λ lies. has_count (cond lies Posted Counted) ≡ true) [ true ↦ refl | false ↦ refl ]

pub has_first-placed : (goals : List Goal) (p : Point) → has_first (placed_stage goals p) ≡ true
has_first-placed goals p = elim (lies_in_goals goals p) as (λ lies. has_first (cond lies Posted Counted) ≡ true) [ true ↦ refl | false ↦ refl ]

-- one in a goal by which marks are skipped is posted
pub placed_stage-goal : (goals : List Goal) (p : Point) → lies_in_goals goals p ≡ true → placed_stage goals p ≡ Posted
placed_stage-goal goals p lies = ap (λ b. cond b Posted Counted) lies

-- and so the hand stays while others are lowered and posted: one that is counted lies in no goal
still : (view after : View) (own : Hand) → view.hand ≡ Some own → own.stage ≡ placed_stage view.run.goals own.point → IsOrPosted view.hand after.hand
    → GoesOn view after → after.hand ≡ Some own
still view after own held far (inl same) goes_on = same ∙ held
still view after own held far (inr (n, posts)) goes_on = by_goal (lies_in_goals view.run.goals own.point) refl
  where
    now : (stage : Stage) → own.stage ≡ stage → after.hand ≡ Some (post_noted stage own n)
    now stage is = posts ∙ ap (λ o. hand_with_post o n) held ∙ ap (λ s. Some (post_noted s own n)) is

    by_number : (b : Bool) → (suc own.mark == n) ≡ b → own.stage ≡ Counted → lies_in_goals view.run.goals own.point ≡ false → after.hand ≡ Some own
    by_number false e stage off = now Counted stage ∙ ap (λ b. Some (cond b (record own { stage = Posted }) own)) e
    by_number true e stage off =
        let is : after.hand ≡ Some (record own { stage = Posted }) = now Counted stage ∙ ap (λ b. Some (cond b (record own { stage = Posted }) own)) e in
        let lies : lies_in_goals after.run.goals own.point ≡ true = (goes_on.lawful.tree.holds (record own { stage = Posted }) is).posted refl in
        absurd (true≢false (sym lies ∙ ap (λ (r : SharedRun). lies_in_goals r.goals own.point) goes_on.later.run ∙ off))

    by_goal : (b : Bool) → lies_in_goals view.run.goals own.point ≡ b → after.hand ≡ Some own
    by_goal true e = now Posted (far ∙ ap (λ b. cond b Posted Counted) e)
    by_goal false e = by_number (suc own.mark == n) refl (far ∙ ap (λ b. cond b Posted Counted) e) e

pub held_on : (view after : View) (hand : Hand) → view.hand ≡ Some (placed_hand view hand) → IsOrPosted view.hand after.hand → GoesOn view after
    → after.hand ≡ Some (placed_hand view hand)
held_on view after hand held posts goes_on = still view after (placed_hand view hand) held refl posts goes_on
