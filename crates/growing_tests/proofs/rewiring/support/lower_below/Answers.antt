use Rattle.tree_rewire.proofs.SeenCosts.{SeesPair-later, stands_later}
use Rattle.growing_tests.proofs.rewiring.support.lower_below.Goals as goal

pub lower_while_dearer-requires-clause-works : goal.lower_while_dearer-requires-clause-works
lower_while_dearer-requires-clause-works c = c.load_at-2.ensures.works

pub lower_while_dearer-requires-clause-node : goal.lower_while_dearer-requires-clause-node
lower_while_dearer-requires-clause-node c = c.in_ok-node.ensures.stands

pub lower_while_dearer-requires-clause-pair : goal.lower_while_dearer-requires-clause-pair
lower_while_dearer-requires-clause-pair c = c.in_ok-node.ensures.pair

pub lower_while_dearer-requires-clause-parent : goal.lower_while_dearer-requires-clause-parent
lower_while_dearer-requires-clause-parent c =
    stands_later c.load_at.new.pass.view c.load_at-2.new.pass.view c.in_ok-node.ensures.goes_on c.in_ok-parent.parent c.args.from
    c.in_ok-parent.ensures.stands

pub lower_while_dearer-requires-clause-parent_pair : goal.lower_while_dearer-requires-clause-parent_pair
lower_while_dearer-requires-clause-parent_pair c =
    SeesPair-later c.load_at.new.pass.view c.load_at-2.new.pass.view c.in_ok-node.ensures.goes_on c.in_ok-parent.parent c.in_ok-parent.ensures.pair
