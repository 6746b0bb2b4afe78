use Rattle.growing_tests.proofs.workers.extend_with_stale_costs.load_two.Goals as goal
use Rattle.tree_rewire.proofs.SeenCosts.{SeesPair-later, stands_later}

pub returns-clause-stands : goal.returns-clause-stands
returns-clause-stands g c =
    stands_later c.load_node-first.new.pass.view c.load_node-second.new.pass.view c.load_node-second.ensures.goes_on c.load_node-first.result
    c.args.one.0 c.load_node-first.ensures.stands

pub returns-clause-pair : goal.returns-clause-pair
returns-clause-pair g c =
    SeesPair-later c.load_node-first.new.pass.view c.load_node-second.new.pass.view c.load_node-second.ensures.goes_on c.load_node-first.result
    c.load_node-first.ensures.pair
