use Rattle.plan_work.proofs.Words.{arith, subst, ending_as, EndsAsSeen, TreeOf, cost_seen-later, GoesOn-trans}
use Rattle.plan_work.proofs.FilledNear.{looked_since}
use Rattle.plan_work.proofs.extension_laws.placed_marks_have_the_best_parent.Goals as goal

pub returns : goal.returns
returns c = record {
  node = λ before after k entry extended is.
      let ended = (subst (λ o. EndsAsSeen before after k entry (ending_as entry o)) is extended.outcome).1.outcome in
      (ended.stands, ended.class_is, ended.looked);
  loaded = λ before after k entry extended is i q stands near clear.
      let ended = (subst (λ o. EndsAsSeen before after k entry (ending_as entry o)) is extended.outcome).1.outcome in
      looked_since (TreeOf i) before.steps ended.chosen_at after
      (GoesOn-trans ended.chosen_at ended.linked_at after ended.in_turn ended.rewired.until)
      (ended.chosen.loaded i record { at = q; stands = stands; near = near; clear = clear });
  chosen = λ before after k entry extended is i q stands pair near clear.
      let ended = (subst (λ o. EndsAsSeen before after k entry (ending_as entry o)) is extended.outcome).1.outcome in
      omega (
        arith,
        ended.chosen.least i record { at = q; stands = stands; near = near; clear = clear },
        cost_seen-later before ended.chosen_at ended.chosen.since i pair,
      );
  rewired = λ before after k entry extended is i q stands near clear.
      let ended = (subst (λ o. EndsAsSeen before after k entry (ending_as entry o)) is extended.outcome).1.outcome in (
        ended.rewired.pairs i record { at = q; stands = stands; near = near; clear = clear },
        ended.rewired.most i record { at = q; stands = stands; near = near; clear = clear },
      );
  swept = λ before after k entry extended is q near.
      (subst (λ o. EndsAsSeen before after k entry (ending_as entry o)) is extended.outcome).1.outcome.swept q near;
}
