use Rattle.plan_work.proofs.Words.{◌≡◌, ◌+◌, ◌^◌, ◌≤◌, suc, inl, inr, refl, ap, ◌∙◌, subst, sym, arith, lies_in_goals, TreeOf, best_word, cost_in}
use Rattle.plan_work.proofs.Words.{BelongsTo-later, goal-at, PassState, with_view, MayPost, last_note, with_post, SeesPoint, sees, SharedRun}
use Rattle.plan_work.proofs.mark_placing.post_goal_node.Goals as goal

pub post-requires-clause-may : goal.post-requires-clause-may
post-requires-clause-may c =
    let before = c.args.pass.now.view in
    let hand = c.requires.placed.0 in
    let placed = c.requires.placed.1 in
    let mark = c.requires.placed.2 in
    let at = c.requires.placed.3 in
    let node = ap suc mark in
    let lies = ap (λ (r : SharedRun). lies_in_goals r.goals c.args.p) c.requires.belongs.run ∙ sym c.has_goal_at.ensures ∙ c.if-has_goal_at.true in
    let one : suc c.args.k ≡ c.args.k + 1 = omega arith in
    subst (MayPost before) one
    record {
      part = c.requires.part;
      goal = goal-at before (suc c.args.k) c.args.p
          (subst (SeesPoint before (suc c.args.k)) at (subst (λ n. SeesPoint before n hand.point) node placed.stands)) lies;
      written = subst (λ n. 2 ^ 63 ≤ sees before (TreeOf n)) node (omega (arith, placed.pair));
    }

pub returns-then-has_goal_at-clause-belongs : goal.returns-then-has_goal_at-clause-belongs
returns-then-has_goal_at-clause-belongs c =
    BelongsTo-later c.args.shared.now c.args.pass.now c.post.new.pass (ap (λ (q : PassState). q.table) c.post.ensures.view) c.post.ensures.goes_on
    c.requires.belongs

pub returns-then-has_goal_at-clause-best : goal.returns-then-has_goal_at-clause-best
returns-then-has_goal_at-clause-best c = inr (omega (arith, c.post.ensures.looked.here))

pub returns-else-has_goal_at-clause-best : goal.returns-else-has_goal_at-clause-best
returns-else-has_goal_at-clause-best c = inl refl

pub returns-then-has_goal_at-clause-in_goal : goal.returns-then-has_goal_at-clause-in_goal
returns-then-has_goal_at-clause-in_goal c = λ lies.
    let before = c.args.pass.now in
    let after = c.post.new.pass in
    let one : c.args.k + 1 ≡ suc c.args.k = omega arith in
    subst
    (λ n. (after ≡ with_view before (with_post before.view n after.view.best (last_note after.view)))
    × (after.view.best ≤ best_word (cost_in (sees before.view (TreeOf n))) n))
    one (c.post.ensures.view, c.post.ensures.posted)

pub returns-then-has_goal_at-clause-elsewhere : goal.returns-then-has_goal_at-clause-elsewhere
returns-then-has_goal_at-clause-elsewhere c = λ no.
    let lies = ap (λ (r : SharedRun). lies_in_goals r.goals c.args.p) c.requires.belongs.run ∙ sym c.has_goal_at.ensures ∙ c.if-has_goal_at.true in
    absurd (let clash = sym no ∙ lies in cc)

pub returns-else-has_goal_at-clause-in_goal : goal.returns-else-has_goal_at-clause-in_goal
returns-else-has_goal_at-clause-in_goal c = λ lies.
    let no = ap (λ (r : SharedRun). lies_in_goals r.goals c.args.p) c.requires.belongs.run ∙ sym c.has_goal_at.ensures ∙ c.if-has_goal_at.false in
    absurd (let clash = sym lies ∙ no in cc)
