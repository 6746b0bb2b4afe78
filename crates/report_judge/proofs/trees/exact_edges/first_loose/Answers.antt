use Rattle.report_judge.proofs.Words.{below_more, KeepsEdges}
use Rattle.report_judge.proofs.trees.exact_edges.first_loose.Goals as goal

pub loop-node-preserved : goal.loop-node-preserved
loop-node-preserved g c =
    below_more (KeepsEdges (g.C.Clearing.space c.args.hall.now) c.args.squared_step c.args.knots.now) c.loop-node.node c.loop-node.invariant
    (c.is_loose.ensures.kept c.if-is_loose.false)
