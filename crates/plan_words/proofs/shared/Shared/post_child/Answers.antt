use Rattle.plan_words.proofs.Words.{ap, sym, ◌∙◌, true≢false, hand_with_post, SharedRun, lies_in_goals}
use Rattle.plan_words.proofs.Posting.{goal-at, lies-at, mark_fits}
use Rattle.plan_words.proofs.SeatSteps.{LooksOn-posted, LooksOn-refl, sees-posted}
use Rattle.plan_words.proofs.shared.Shared.post_child.Goals as goal

pub post_at-requires-clause-may : goal.post_at-requires-clause-may
post_at-requires-clause-may c = record {
  part = c.requires.part;
  goal =
      goal-at c.args.seat.now.me.0 c.args.node c.args.point c.requires.stands
      (ap (λ (r : SharedRun). lies_in_goals r.goals c.args.point) c.requires.sits.run ∙ sym c.has_goal_at.ensures ∙ c.if-has_goal_at.true);
  written = c.requires.written;
}

pub note_post-requires : goal.note_post-requires
note_post-requires c = mark_fits c.args.seat.now.me.0 c.args.hand.now c.requires.sits.lawful c.requires.held

pub returns-then-has_goal_at-clause-held : goal.returns-then-has_goal_at-clause-held
returns-then-has_goal_at-clause-held c =
    c.note_post.ensures ∙ ap (λ h. hand_with_post h c.args.node) c.requires.held ∙ sym (ap (λ v. v.hand) c.post_at.ensures.view)

pub returns-then-has_goal_at-clause-looks : goal.returns-then-has_goal_at-clause-looks
returns-then-has_goal_at-clause-looks c =
    LooksOn-posted c.args.seat.now.me.0 c.post_at.new.seat.me.0 c.args.node c.post_at.ensures.view c.post_at.ensures.goes_on c.post_at.ensures.looked

pub returns-then-has_goal_at-clause-seen : goal.returns-then-has_goal_at-clause-seen
returns-then-has_goal_at-clause-seen c = sees-posted c.args.seat.now.me.0 c.post_at.new.seat.me.0 c.args.node c.post_at.ensures.view

pub returns-else-has_goal_at-clause-looks : goal.returns-else-has_goal_at-clause-looks
returns-else-has_goal_at-clause-looks c = LooksOn-refl c.args.seat.now.me.0 c.requires.sits.lawful

pub returns-else-has_goal_at-clause-posted : goal.returns-else-has_goal_at-clause-posted
returns-else-has_goal_at-clause-posted c here =
    let lies = lies-at c.args.seat.now.me.0 c.args.node c.args.point c.requires.stands here in
    absurd (true≢false (sym lies ∙ ap (λ (r : SharedRun). lies_in_goals r.goals c.args.point) c.requires.sits.run ∙ sym c.has_goal_at.ensures
    ∙ c.if-has_goal_at.false))
