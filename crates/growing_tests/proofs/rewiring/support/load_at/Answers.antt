use Rattle.growing_tests.proofs.Words.{GoesOn-trans, PassSees-tree, stands_later, IsAtWork}
use Rattle.growing_tests.proofs.LoweredNodes.WorkingPasses.{IsAtWork-kept}
use Rattle.growing_tests.proofs.rewiring.support.load_at.Goals as goal
use Rattle.growing_tests.proofs.rewiring.support.load_at.Goals.{After-find}

-- the node is looked for
finds : (c : After-find) → IsAtWork c.args.shared.now c.find.new.pass
finds c =
    let find = c.find.ensures in
    IsAtWork-kept c.args.shared.now c.args.pass.now c.find.new.pass find.belongs find.looks.kept.crew c.requires

pub returns-in_err-node-clause-works : goal.returns-in_err-node-clause-works
returns-in_err-node-clause-works c = finds (goal.at.returns-in_err-node-clause-works c).After-find

pub returns-clause-works : goal.returns-clause-works
returns-clause-works c =
    let tree = c.tree-pair.ensures in
    let found = finds (goal.at.returns-clause-works c).After-find in
    let steps = PassSees-tree c.args.shared.now c.find.new.pass c.tree-pair.new.pass c.in_ok-node.node _ _ found.belongs tree.view tree.goes_on tree.seen
    tree.looked in
    IsAtWork-kept c.args.shared.now c.find.new.pass c.tree-pair.new.pass steps.belongs steps.sees_anew.kept.crew found

pub returns-clause-stands : goal.returns-clause-stands
returns-clause-stands c =
    stands_later c.find.new.pass.view c.tree-pair.new.pass.view c.tree-pair.ensures.goes_on c.in_ok-node.node c.args.at c.in_ok-node.ensures.found

pub returns-clause-goes_on : goal.returns-clause-goes_on
returns-clause-goes_on c =
    GoesOn-trans c.args.pass.now.view c.find.new.pass.view c.tree-pair.new.pass.view c.find.ensures.looks.looks.goes_on c.tree-pair.ensures.goes_on
