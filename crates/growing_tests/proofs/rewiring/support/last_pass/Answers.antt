use Rattle.growing_tests.proofs.Words.{All-pop, MayClaim}
use Rattle.growing_tests.proofs.rewiring.support.last_pass.Goals as goal

pub returns-clause-rest : goal.returns-clause-rest
returns-clause-rest c = (All-pop (MayClaim c.args.shared.now) _ _ _ c.pop.ensures.items c.requires).0

pub returns-clause-last : goal.returns-clause-last
returns-clause-last c = (All-pop (MayClaim c.args.shared.now) _ _ _ c.pop.ensures.items c.requires).1
