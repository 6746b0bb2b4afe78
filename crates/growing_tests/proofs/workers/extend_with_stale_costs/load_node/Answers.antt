use Rattle.growing_tests.proofs.Words.{inl, GoesOn-trans, NamesTree, PassSees-tree, stands_later}
use Rattle.growing_tests.proofs.Shares.KeptShares.{HasShare-kept, HasShare-sees}
use Rattle.growing_tests.proofs.workers.extend_with_stale_costs.load_node.Goals as goal

pub returns-clause-goes_on : goal.returns-clause-goes_on
returns-clause-goes_on g c =
    GoesOn-trans c.args.pass.now.view c.find.new.pass.view c.tree-pair.new.pass.view c.find.ensures.looks.looks.goes_on c.tree-pair.ensures.goes_on

pub returns-clause-stands : goal.returns-clause-stands
returns-clause-stands g c =
    stands_later c.find.new.pass.view c.tree-pair.new.pass.view c.tree-pair.ensures.goes_on c.in-Some.node c.args.at c.in-Some.ensures.found

pub returns-clause-share : goal.returns-clause-share
returns-clause-share g c =
    let shared = c.args.shared.now in
    let tree = c.tree-pair.ensures in
    HasShare-sees NamesTree shared c.find.new.pass c.tree-pair.new.pass 1
    (PassSees-tree shared c.find.new.pass c.tree-pair.new.pass c.in-Some.node _ _ c.find.ensures.belongs tree.view tree.goes_on tree.seen
    tree.looked)
    (HasShare-kept shared c.args.pass.now c.find.new.pass 1 c.find.ensures.belongs c.find.ensures.looks.kept.crew (inl c.find.ensures.looks.kept.hand)
    c.requires)
