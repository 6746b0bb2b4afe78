use Rattle.std.proofs.Common.{◌≤◌, length}
use Rattle.shared_tree_tests.proofs.kd_tree.scans.scan_nearest.Given as goal

abbrev pub invariant-numbers : goal.invariant-numbers
invariant-numbers l = l.best ≤ length l.points
