use Rattle.path_watch.proofs.GivenItems.{Comes-given, Comes-pending}
use Rattle.path_watch.proofs.handing.NextItemFuture.poll.Goals as goal

pub returns-in-Pending-clause-same : goal.returns-in-Pending-clause-same
returns-in-Pending-clause-same g c = λ x h. rw (← c.in-Some.ensures.value) (Comes-pending _ _ _ _ c.in-Pending.ensures.polls h)

pub returns-in-Ready-clause-value : goal.returns-in-Ready-clause-value
returns-in-Ready-clause-value g c = rw (← c.in-Some.ensures.value) (Comes-given _ _ _ c.in-Ready.ensures.polls)
