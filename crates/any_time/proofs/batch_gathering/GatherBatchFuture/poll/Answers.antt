use Rattle.any_time.proofs.Words.{◌≡◌, ◌++◌, ◌∷◌, [], get_or, set, rules, IfOk-weaker}
use Rattle.any_time.proofs.GatheredBatches.{after_item, after_pending, at_end, at_memory}
use Rattle.any_time.proofs.batch_gathering.GatherBatchFuture.poll.Goals as goal

pub returns-in-Pending-clause-same : goal.returns-in-Pending-clause-same
returns-in-Pending-clause-same g c = λ x h.
    rw (← c.in-Some.ensures.value) (IfOk-weaker x _ _ (λ after. after_pending _ _ _ _ _ c.in-Pending.ensures.polls) (rw c.put_back.ensures at h))

pub returns-else-is_err-clause-same : goal.returns-else-is_err-clause-same
returns-else-is_err-clause-same g c =
    let polls = rw (c.in-Ready-Some-Ok.field-0-is, c.in-Ready-Some-Ok.field-0-0-is) at c.in-Ready-Some-Ok.ensures.polls in
    let lists = c.in-Some.gathered.lists.items in
    let number = c.in-Ready-Some-Ok.number in
    let pushed : c.push_better.new.lists.items ≡ set lists number (get_or lists number [] ++ c.in-Ready-Some-Ok.better ∷ []) = search rules in
    rw c.yield_now.ensures.pending (λ x h.
    rw (← c.in-Some.ensures.value) (IfOk-weaker x _ _ (λ after k. after_item _ _ _ _ _ _ _ polls (rw pushed at k))
    (rw c.put_back-in-Ready-Some-Ok.ensures at h)))

pub returns-in-Ready-Some-Err-clause-value : goal.returns-in-Ready-Some-Err-clause-value
returns-in-Ready-Some-Err-clause-value g c =
    let polls = rw (c.in-Ready-Some-Err.field-0-is, c.in-Ready-Some-Err.field-0-0-is) at c.in-Ready-Some-Err.ensures.polls in
    rw (← c.in-Some.ensures.value) (at_memory _ _ _ _ polls)

pub returns-in-Ready-None-clause-value : goal.returns-in-Ready-None-clause-value
returns-in-Ready-None-clause-value g c =
    let polls = rw c.in-Ready-None.field-0-is at c.in-Ready-None.ensures.polls in
    rw (← c.in-Some.ensures.value) (at_end _ _ _ polls)
