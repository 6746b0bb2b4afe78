use Rattle.shared_tree_tests.proofs.SteeredPasses.RepeatedPoints.{AreMarks}
use Rattle.shared_tree_tests.proofs.kd_tree.place_by_threads.repeated_points.Given as goal

abbrev pub invariant-marks : goal.invariant-marks
invariant-marks l = AreMarks l.marks.items l.mark
