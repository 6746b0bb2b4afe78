use Rattle.grown_runs.specs.Runs.GrownRuns.{state_of_grown}
use Rattle.twin_trees.proofs.SearchedPairs.{AreNodes-permutation}
use Rattle.twin_trees.proofs.nodes.bands_of.Goals as goal

pub returns : goal.returns
returns c =
    AreNodes-permutation (state_of_grown c.args.grown.now) c.in_ok-nodes.nodes.items c.new.result c.new.ensures c.in_ok-nodes.ensures.nodes
