use Rattle.grown_runs.proofs.child_index.ChildIndex.push.Goals as goal

pub returns-clause-more : goal.returns-clause-more
returns-clause-more c nodes chain index = c.append.ensures.more nodes chain (rw c.reserve.ensures.items index)
