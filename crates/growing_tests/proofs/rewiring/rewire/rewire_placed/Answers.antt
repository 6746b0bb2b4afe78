use Rattle.std.proofs.Common.{length, ap, arith}
use Rattle.growing_tests.proofs.rewiring.rewire.rewire_placed.Goals as goal

pub returns : goal.returns
returns c =
    let may = c.requires.may in
    let seen = c.rewire.ensures.seen in
    record {
      belongs = c.rewire.ensures.belongs;
      part = omega (arith, may.part, ap (λ crew. length crew) seen.kept.crew);
    }
