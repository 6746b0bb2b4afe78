use Rattle.grown_runs.proofs.Words.{◌<◌, ◌+◌, ◌^◌, arith, sym, subst, length-marks, state_of_grown}
use Rattle.grown_runs.proofs.Runs.OpeningBests.{IsLeastBelow, IsLeastBelow-more}
use Rattle.grown_runs.proofs.opening_bests.least_best.Goals as goal

pub loop-node-preserved : goal.loop-node-preserved
loop-node-preserved c =
    let grown = c.args.grown.now in
    let state = state_of_grown grown in
    let small : c.loop-node.node < 2 ^ 18 =
    omega (arith, c.loop-node-test.true, c.limit-node-end.ensures, grown.hold_run.closed.within, length-marks grown.task) in
    subst (IsLeastBelow grown.task.scene.goals state (c.loop-node.node + 1)) (sym c.min-best.ensures)
    (IsLeastBelow-more grown.task.scene.goals state c.loop-node.node c.loop-node.best c.goal_word.result small c.loop-node.invariant c.goal_word.ensures)
