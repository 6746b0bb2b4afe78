use Rattle.growing_tests.proofs.Words.{length, ap, slice_index_or}
use Rattle.growing_tests.proofs.Shares.Elements.{there}
use Rattle.growing_tests.proofs.workers.support.shared_by_two.Goals as goal

pub returns-clause-passes : goal.returns-clause-passes
returns-clause-passes g c k d low =
    let passes = c.sure.result.1.items in
    let pass = slice_index_or passes k d in
    let may_claim = rw c.sure.ensures at c.start.ensures.may_claim in
    let starts = rw c.sure.ensures at c.start.ensures.passes in
    record {
      may_claim = may_claim k d low;
      share_is = ap (λ crew. length crew) (starts k pass (there passes k d low)).crew;
    }
