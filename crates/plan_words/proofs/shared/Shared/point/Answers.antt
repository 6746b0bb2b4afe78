use Rattle.plan_words.proofs.Words.{sym, subst, IsBounded-seen, SeesPoint}
use Rattle.plan_words.proofs.shared.Shared.point.Goals as goal

pub returns-clause-found : goal.returns-clause-found
returns-clause-found c = subst (SeesPoint c.point_word.new.pass.view c.args.node) (sym c.point_in.ensures) c.point_word.ensures.found

pub returns-clause-bounded : goal.returns-clause-bounded
returns-clause-bounded c = IsBounded-seen c.point_word.new.pass.view c.args.node _ (returns-clause-found c)
