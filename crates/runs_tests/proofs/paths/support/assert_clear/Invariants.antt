use Rattle.std.proofs.Common.{ℕ, suc, ◌<◌}
use Rattle.plan_model.specs.Spaces.Clearance.{Clear, path_point}
use Rattle.runs_tests.proofs.paths.support.assert_clear.Given as goal

abbrev pub invariant-edges : goal.invariant-edges
invariant-edges g l = (k : ℕ) → k < l.first → Clear l.hall (path_point l.points k) (path_point l.points (suc k))
