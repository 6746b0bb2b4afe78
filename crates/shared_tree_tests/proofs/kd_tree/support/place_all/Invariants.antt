use Rattle.plan_words.specs.States.{MayClaim}
use Rattle.shared_tree_tests.proofs.kd_tree.support.place_all.Given as goal

abbrev pub invariant-marks : goal.invariant-marks
invariant-marks l = record { may_claim : MayClaim l.shared l.pass }
