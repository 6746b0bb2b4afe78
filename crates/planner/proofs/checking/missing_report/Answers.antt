use Rattle.std.proofs.Common.{◌+◌, refl, ap, inr}
use Rattle.planner.proofs.checking.missing_report.Goals as goal

pub returns-clause-missing : goal.returns-clause-missing
returns-clause-missing c = record {
  none = c.requires.none;
  refused = inr (record {
    scene = c.in_ok-scene.scene;
    spelled = c.in_ok-scene.ensures.scene;
    after_last = ap (λ n. n + 1) c.line_count.ensures.count;
    missing = refl;
  });
}
