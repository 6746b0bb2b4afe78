use Rattle.twin_trees.proofs.Words.{subst, IsMatched}
use Rattle.twin_trees.proofs.bridges.so_far_is_beaten.Goals as goal

pub returns-in-Some-clause-beaten : goal.returns-in-Some-clause-beaten
returns-in-Some-clause-beaten c = λ true cost first second matched.
    c.is_beaten.ensures.beaten true cost first second (subst (λ so_far. IsMatched so_far cost first second) c.in-Some.is matched)
