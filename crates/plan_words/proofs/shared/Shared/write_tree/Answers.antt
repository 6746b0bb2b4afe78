use Rattle.plan_words.proofs.GoingOn.{GoesOn-trans}
use Rattle.plan_words.proofs.shared.Shared.write_tree.Goals as goal

pub returns-clause-goes_on : goal.returns-clause-goes_on
returns-clause-goes_on c = GoesOn-trans _ _ _ c.store_first.ensures.goes_on c.store_tree.ensures.goes_on
