use Rattle.std.proofs.lemmas.Grind.{common_steps}
use Rattle.any_time.proofs.Words.{◌≤◌, ℕ, length, refl, ap, ◌∙◌, arith, vec_capacity, turn_after}
use Rattle.any_time.proofs.KeptRuns.{runs_of_gave}
use Rattle.any_time.proofs.TurnLoop.{all_rest, gave, turned_ended, turned_pending}
use Rattle.any_time.proofs.batches.BatchStream.poll_next.Goals as goal
use Rattle.any_time.proofs.batches.BatchStream.poll_next.Goals.{in-Pending, in-Ready-None}

pub returns-in-Ready-Some-Ok-clause-polls : goal.returns-in-Ready-Some-Ok-clause-polls
returns-in-Ready-Some-Ok-clause-polls g c =
    let polls = rw (c.in-Ready-Some-Ok.field-0-is, c.in-Ready-Some-Ok.field-0-0-is) at c.in-Ready-Some-Ok.ensures.polls in
    let long = c.len-count.ensures ∙ c.self.inside.sessions.ok.0 in
    let from : c.turn_after-from.result ≤ length c.self.inside.sessions.items = omega (arith, c.turn_after-from.ensures.within, long) in
    let from_is = c.turn_after-from.ensures.turn ∙ ap (λ (n : ℕ). turn_after n c.self.inside.last) long in
    let gave_it = gave _ _ _ _ _ _ _ c.loop-place.invariant.0 from _ (rw long at c.number_at-number.ensures.within)
    (rw long at c.number_at-number.ensures.place) _ _ c.index_mut.ensures.value _ polls in
    rw (← c.self.view_is, ← from_is) (c.if-self.false, c.loop-place.invariant.2 ∙ c.if-self.false, refl, gave_it)

pub returns-in-Ready-Some-Err-clause-polls : goal.returns-in-Ready-Some-Err-clause-polls
returns-in-Ready-Some-Err-clause-polls g c =
    let polls = rw (c.in-Ready-Some-Err.field-0-is, c.in-Ready-Some-Err.field-0-0-is) at c.in-Ready-Some-Err.ensures.polls in
    let long = c.len-count.ensures ∙ c.self.inside.sessions.ok.0 in
    let from : c.turn_after-from.result ≤ length c.self.inside.sessions.items = omega (arith, c.turn_after-from.ensures.within, long) in
    let from_is = c.turn_after-from.ensures.turn ∙ ap (λ (n : ℕ). turn_after n c.self.inside.last) long in
    let gave_it = gave _ _ _ _ _ _ _ c.loop-place.invariant.0 from _ (rw long at c.number_at-number.ensures.within)
    (rw long at c.number_at-number.ensures.place) _ _ c.index_mut.ensures.value _ polls in
    rw (← c.self.view_is, ← from_is) (c.if-self.false, refl, c.loop-place.invariant.1, (c.number_at-number.result, gave_it))

pub loop-place-preserved : goal.loop-place-preserved
loop-place-preserved g c =
    let long = c.len-count.ensures ∙ c.self.inside.sessions.ok.0 in
    let from : c.turn_after-from.result ≤ length c.self.inside.sessions.items = omega (arith, c.turn_after-from.ensures.within, long) in
    let within = rw long at c.number_at-number.ensures.within in
    let place = rw long at c.number_at-number.ensures.place in
    let kept = c.loop-place.invariant in
    elim c.match-poll_next.branch [
      | in-Pending w ↦
          let polls = w.in-Pending.ensures.polls in (
            rw w.is_pending-is (turned_pending _ _ _ _ _ _ _ kept.0 from _ within place _ _ c.index_mut.ensures.value _ c.poll_next.ensures.kept polls),
            kept.1,
            kept.2,
            kept.3,
          )
      | in-Ready-None w ↦
          let polls = rw w.in-Ready-None.field-0-is at w.in-Ready-None.ensures.polls in (
            rw w.is_pending-is (turned_ended _ _ _ _ _ _ _ kept.0 from _ within place _ _ c.index_mut.ensures.value _ c.poll_next.ensures.kept polls),
            kept.1,
            kept.2,
            kept.3,
          )
    ]

pub returns-then-is_pending-clause-polls : goal.returns-then-is_pending-clause-polls
returns-then-is_pending-clause-polls g c =
    let long = c.len-count.ensures ∙ c.self.inside.sessions.ok.0 in
    let from : c.turn_after-from.result ≤ length c.self.inside.sessions.items = omega (arith, c.turn_after-from.ensures.within, long) in
    let rest = all_rest _ _ _ _ _ _ _ c.loop-place.invariant.0 from (omega (arith, c.loop-place-test.false, long)) c.if-is_pending.true in
    rw (← c.self.view_is, c.yield_now.ensures.pending) (c.if-self.false, c.loop-place.invariant.2 ∙ c.if-self.false, c.loop-place.invariant.1, rest)

-- each session has its run still
pub invariant_of-self-in-Ready-Some-Ok : goal.invariant_of-self-in-Ready-Some-Ok
invariant_of-self-in-Ready-Some-Ok g c =
    let polls = rw (c.in-Ready-Some-Ok.field-0-is, c.in-Ready-Some-Ok.field-0-0-is) at c.in-Ready-Some-Ok.ensures.polls in
    let long = c.len-count.ensures ∙ c.self.inside.sessions.ok.0 in
    let from : c.turn_after-from.result ≤ length c.self.inside.sessions.items = omega (arith, c.turn_after-from.ensures.within, long) in
    let gave_it = gave _ _ _ _ _ _ _ c.loop-place.invariant.0 from _ (rw long at c.number_at-number.ensures.within)
    (rw long at c.number_at-number.ensures.place) _ _ c.index_mut.ensures.value _ polls in
    let before = c.self.invariant in
    let all = runs_of_gave _ _ _ _ _ from gave_it (before.4 c.if-self.false) in
    let runs = c.loop-place.invariant.3 in (
      omega (arith, before.0, gave_it.count),
      ap (λ r. r.items) runs ∙ before.1,
      omega (arith, before.2, gave_it.count, ap (λ r. vec_capacity r) runs),
      omega (arith, gave_it.within, gave_it.count),
      λ fine. all,
    )

pub invariant_of-self : goal.invariant_of-self
invariant_of-self g c = grind (arith, common_steps)

pub returns-in-Ready-Some-Ok-clause-kept : goal.returns-in-Ready-Some-Ok-clause-kept
returns-in-Ready-Some-Ok-clause-kept g c = grind (arith, common_steps)

pub returns-in-Ready-Some-Err-clause-kept : goal.returns-in-Ready-Some-Err-clause-kept
returns-in-Ready-Some-Err-clause-kept g c = grind (arith, common_steps)

pub returns-else-is_pending-clause-polls : goal.returns-else-is_pending-clause-polls
returns-else-is_pending-clause-polls g c = grind (arith, common_steps)
