use Rattle.plan_model.proofs.SeenTreeLaws.{HasSeenAtLeast-refl, HasSeenAtLeast-trans, IsSeen-more}
use Rattle.plan_model.proofs.SightLaws.{IsLaterMoment-refl, IsLaterMoment-trans, IsSwept-later}
use Rattle.plan_model.proofs.laws.seen_trees.what_is_seen_stays_seen.Goals as goal

pub returns-clause-as_much : goal.returns-clause-as_much
returns-clause-as_much c = HasSeenAtLeast-refl

pub returns-clause-more : goal.returns-clause-more
returns-clause-more c = HasSeenAtLeast-trans

pub returns-clause-itself : goal.returns-clause-itself
returns-clause-itself c = IsLaterMoment-refl

pub returns-clause-all_the_while : goal.returns-clause-all_the_while
returns-clause-all_the_while c = IsLaterMoment-trans

pub returns-clause-nodes : goal.returns-clause-nodes
returns-clause-nodes c = IsSeen-more

pub returns-clause-swept : goal.returns-clause-swept
returns-clause-swept c = IsSwept-later
