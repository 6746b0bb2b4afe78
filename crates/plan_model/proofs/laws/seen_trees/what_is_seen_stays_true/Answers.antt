use Rattle.plan_model.proofs.TrueSights.{IsTrueOf-grows, IsTrueOf-less}
use Rattle.plan_model.proofs.laws.seen_trees.what_is_seen_stays_true.Goals as goal

pub returns-clause-grows : goal.returns-clause-grows
returns-clause-grows c = IsTrueOf-grows

pub returns-clause-less : goal.returns-clause-less
returns-clause-less c = IsTrueOf-less
