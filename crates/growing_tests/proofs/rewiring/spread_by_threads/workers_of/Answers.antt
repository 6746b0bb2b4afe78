use Rattle.growing_tests.proofs.Words.{sym, subst, All, All-push, MayClaim}
use Rattle.growing_tests.specs.declared.rewiring.spread_by_threads.Worker.{Worker}
use Rattle.growing_tests.proofs.rewiring.spread_by_threads.workers_of.Goals as goal

pub passes-preserved : goal.passes-preserved
passes-preserved c =
    record {
      rest = c.last_pass.ensures.rest;
      made =
          subst (All (λ (worker : Worker). MayClaim c.args.shared.now worker.pass)) (sym c.in_ok-push.ensures.items)
          (All-push (λ (worker : Worker). MayClaim c.args.shared.now worker.pass) c.passes.workers.items _ c.passes.invariant.made c.in-Some.ensures.last);
    }
