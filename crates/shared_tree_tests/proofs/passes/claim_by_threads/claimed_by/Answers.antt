use Rattle.std.proofs.Common.{zero, suc, arith}
use Rattle.shared_tree_tests.proofs.passes.claim_by_threads.claimed_by.Goals as goal

pub work_all-requires-clause-may_claim : goal.work_all-requires-clause-may_claim
work_all-requires-clause-may_claim g c κs within zero d low = c.worker_of-first.ensures
work_all-requires-clause-may_claim g c κs within (suc zero) d low = c.worker_of-second.ensures
work_all-requires-clause-may_claim g c κs within (suc (suc zero)) d low = c.worker_of-third.ensures
work_all-requires-clause-may_claim g c κs within (suc (suc (suc k))) d low = absurd (omega (arith, low))
