use Rattle.plan_words.specs.States.{BelongsTo}
use Rattle.shared_tree_tests.proofs.kd_tree.searches.all_answer_as_scans.Given as goal

abbrev pub invariant-places : goal.invariant-places
invariant-places l = BelongsTo l.pass l.shared
