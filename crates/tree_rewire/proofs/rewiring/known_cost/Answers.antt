use Rattle.grown_runs.specs.Table.WordNames.Word.{TreeOf}
use Rattle.tree_rewire.proofs.SeenCosts.{SeesNode-present}
use Rattle.tree_rewire.proofs.WholeShares.{SeesAsBefore-loaded}
use Rattle.tree_rewire.proofs.rewiring.known_cost.Goals as goal

pub pair-requires : goal.pair-requires
pair-requires c = c.requires.belongs.lawful.within c.args.node (SeesNode-present c.args.pass.now.view c.args.node c.requires.belongs.lawful c.requires.node)

pub returns-clause-whole : goal.returns-clause-whole
returns-clause-whole c =
    λ all. SeesAsBefore-loaded c.args.pass.now.view c.tree.new.pass.view (TreeOf c.args.node) _ c.tree.ensures.seen (c.tree.ensures.whole all)
