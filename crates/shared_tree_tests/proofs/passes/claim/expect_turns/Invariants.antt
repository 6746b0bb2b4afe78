use Rattle.plan_words.specs.States.{MayClaim}
use Rattle.shared_tree_tests.proofs.passes.claim.expect_turns.Given as goal

abbrev pub invariant-turns : goal.invariant-turns
invariant-turns g l = record { may_claim : MayClaim l.shared l.pass }
