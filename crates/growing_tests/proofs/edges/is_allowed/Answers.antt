use Rattle.growing_tests.proofs.Words.{◌*◌, ap, arith, subst, leb-true, Clear, Task}
use Rattle.growing_tests.proofs.edges.is_allowed.Goals as goal

pub returns-then-clear : goal.returns-then-clear
returns-then-clear c close =
    record {
      clear = subst (λ space. Clear space c.args.edge.from c.args.edge.at) c.requires.hall (c.clear.ensures.0 c.if-clear.true);
      short =
          omega (
            arith,
            leb-true c.squared_distance.result (c.from-step.result * c.from-step.result) close,
            c.squared_distance.ensures.value,
            ap (λ s. s * s) c.from-step.ensures,
            ap (λ (t : Task). t.scene.step * t.scene.step) c.task.ensures,
          );
    }
