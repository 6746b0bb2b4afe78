use Rattle.shared_tree_tests.proofs.passes.end.take_turns.Given as goal
use Rattle.shared_tree_tests.specs.HeldPasses.HeldMarks.{HasShare}

abbrev pub invariant-turns : goal.invariant-turns
invariant-turns g l = HasShare l.shared 1 l.pass
