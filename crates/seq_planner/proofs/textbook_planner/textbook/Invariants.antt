use Rattle.seq_planner.proofs.Words.{length, take, skipping_goals, points_of, AreGoalNodesBelow}
use Rattle.seq_planner.proofs.RunsSoFar.{IsRunSoFar}
use Rattle.seq_planner.proofs.textbook_planner.textbook.Given as goal

-- the earlier marks are handled, and the goal nodes listed
abbrev pub invariant-loop-mark : goal.invariant-loop-mark
invariant-loop-mark g l = record {
  run : IsRunSoFar l.scene (take l.mark-index l.marks) l.tree;
  listed : AreGoalNodesBelow (skipping_goals l.scene) (points_of l.tree.nodes) (length l.tree.nodes) l.goal_nodes.numbers.items;
}
