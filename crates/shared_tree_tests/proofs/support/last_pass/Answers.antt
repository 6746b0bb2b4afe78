use Rattle.shared_tree_tests.proofs.Words.{All-pop, MayClaim}
use Rattle.shared_tree_tests.proofs.support.last_pass.Goals as goal

pub returns : goal.returns
returns c = let all = All-pop (MayClaim c.args.shared.now) _ _ _ c.pop.ensures.items c.requires in record { rest = all.0; last = all.1 }
