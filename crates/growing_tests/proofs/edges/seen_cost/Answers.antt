use Rattle.tree_rewire.proofs.SeenCosts.{pair_low}
use Rattle.growing_tests.proofs.edges.seen_cost.Goals as goal

pub pair-requires : goal.pair-requires
pair-requires c = pair_low c.args.pass.now.view c.args.node c.requires.lawful c.requires.pair
