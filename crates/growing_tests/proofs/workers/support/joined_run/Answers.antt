use Rattle.std.proofs.Common.{length, ap, arith}
use Rattle.growing_tests.proofs.workers.support.joined_run.Goals as goal

pub end-requires-clause-none_left : goal.end-requires-clause-none_left
end-requires-clause-none_left g c =
    let marks = ap (λ run. length run.marks) c.take_both.ensures.share.may_claim.belongs.run in
    record {
      limit = 3;
      most = omega (arith, c.take_both.ensures.share.may_claim.belongs.lawful.most, marks, c.requires.marks);
      full = c.take_both.ensures.full;
    }
