use Rattle.std.proofs.Common.{◌∙◌}
use Rattle.any_time.proofs.FinishedBatches.{count_of, finished}
use Rattle.any_time.proofs.batch_gathering.finish_batch.Goals as goal

pub returns-clause-runs : goal.returns-clause-runs
returns-clause-runs g c =
    let gathers = rw (c.new-2.ensures, c.in_ok-batch-2.was) at c.in-Ok.ensures in
    let counted = count_of _ _ _ _ _ gathers c.in-Some.ensures.1 in
    rw c.in_ok-batch.ensures at counted

pub returns-clause-lists : goal.returns-clause-lists
returns-clause-lists g c =
    let gathers = rw (c.new-2.ensures, c.in_ok-batch-2.was) at c.in-Ok.ensures in
    rw c.from_vec.ensures (gathers.count ∙ (c.in_ok-lists.ensures.count ∙ (c.len.ensures ∙ c.args.sessions.ok.0)))

pub returns-clause-each : goal.returns-clause-each
returns-clause-each g c =
    let gathers = rw (c.new-2.ensures, c.in_ok-batch-2.was) at c.in-Ok.ensures in
    let from_batch = rw c.in_ok-batch.ensures at gathers in
    rw c.from_vec.ensures (finished _ _ _ _ _ from_batch c.in-Some.ensures.1 c.in_ok-lists.ensures.empty
    (c.in_ok-lists.ensures.count ∙ (c.len.ensures ∙ c.args.sessions.ok.0)) c.in-Some.ensures.0)
