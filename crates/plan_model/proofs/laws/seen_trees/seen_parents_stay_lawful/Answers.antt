use Rattle.plan_model.proofs.SeenParentLaws.{AreSeenLawfully-whole, AreSeenLawfully-grows, AreSeenLawfully-takes}
use Rattle.plan_model.proofs.laws.seen_trees.seen_parents_stay_lawful.Goals as goal

pub returns-clause-of_tree : goal.returns-clause-of_tree
returns-clause-of_tree c = AreSeenLawfully-whole

pub returns-clause-grows : goal.returns-clause-grows
returns-clause-grows c = AreSeenLawfully-grows

pub returns-clause-taken_over : goal.returns-clause-taken_over
returns-clause-taken_over c = AreSeenLawfully-takes
