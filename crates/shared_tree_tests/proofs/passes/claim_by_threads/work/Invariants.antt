use Rattle.plan_words.specs.States.{MayClaim}
use Rattle.shared_tree_tests.proofs.passes.claim_by_threads.work.Given as goal

abbrev pub invariant-marks : goal.invariant-marks
invariant-marks g l = record { may_claim : MayClaim l.shared l.worker.pass }
