use Rattle.growing_tests.proofs.Words.{All-pop, HasShare}
use Rattle.growing_tests.proofs.workers.support.last_sharer.Goals as goal

pub returns-clause-rest : goal.returns-clause-rest
returns-clause-rest c = (All-pop (HasShare c.args.shared.now 1) _ _ _ c.pop.ensures.items c.requires).0

pub returns-clause-last : goal.returns-clause-last
returns-clause-last c = (All-pop (HasShare c.args.shared.now 1) _ _ _ c.pop.ensures.items c.requires).1
