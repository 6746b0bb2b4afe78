use Rattle.any_time.proofs.Words.{rules, ◌≡◌, [], ◌∷◌, ◌++◌, IfOk-weaker}
use Rattle.any_time.proofs.GatheredItems.{after_pending, after_item, at_memory}
use Rattle.any_time.proofs.gathering.GatherFuture.poll.Goals as goal

pub returns-in-Pending-clause-same : goal.returns-in-Pending-clause-same
returns-in-Pending-clause-same g c = λ x h.
    rw (← c.in-Some.ensures.value) (IfOk-weaker x _ _ (λ after. after_pending _ _ _ _ _ c.in-Pending.ensures.polls) (rw c.put_back.ensures at h))

pub returns-else-is_err-clause-same : goal.returns-else-is_err-clause-same
returns-else-is_err-clause-same g c =
    let polls = rw (c.in-Ready-Some-Ok.field-0-is, c.in-Ready-Some-Ok.field-0-0-is) at c.in-Ready-Some-Ok.ensures.polls in
    let pushed : c.push_item.new.items.items ≡ c.in-Some.gathered.items.items ++ c.in-Ready-Some-Ok.item ∷ [] = search rules in
    rw c.yield_now.ensures.pending (λ x h.
    rw (← c.in-Some.ensures.value) (IfOk-weaker x _ _ (λ after k. after_item _ _ _ _ _ _ polls (rw pushed at k)) (rw c.put_back-in-Ready-Some-Ok.ensures at h)))

pub returns-in-Ready-Some-Err-clause-value : goal.returns-in-Ready-Some-Err-clause-value
returns-in-Ready-Some-Err-clause-value g c =
    let polls = rw (c.in-Ready-Some-Err.field-0-is, c.in-Ready-Some-Err.field-0-0-is) at c.in-Ready-Some-Err.ensures.polls in
    rw (← c.in-Some.ensures.value) (at_memory _ _ _ _ polls)
