use Rattle.plan_words.specs.States.{MayClaim}
use Rattle.shared_tree_tests.proofs.kd_tree.place_by_threads.work.Given as goal

abbrev pub invariant-points : goal.invariant-points
invariant-points l = record { may_claim : MayClaim l.shared l.worker.pass }
