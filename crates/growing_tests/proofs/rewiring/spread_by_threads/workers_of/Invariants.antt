use Rattle.growing_tests.proofs.Words.{All, MayClaim}
use Rattle.growing_tests.proofs.rewiring.spread_by_threads.workers_of.Given as goal

abbrev pub invariant-passes : goal.invariant-passes
invariant-passes l = record {
  rest : All (MayClaim l.shared) l.passes.items;
  made : All (λ worker. MayClaim l.shared worker.pass) l.workers.items;
}
