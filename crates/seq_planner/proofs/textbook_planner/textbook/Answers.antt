use Rattle.seq_planner.proofs.Words.{◌≡◌, ap, arith, length, subst, length-take, get_or_default, Point, skipping_goals, points_of, length-marks}
use Rattle.seq_planner.proofs.Words.{All-task_marks_within, AreGoalNodesBelow}
use Rattle.seq_planner.proofs.GoalNodeLists.{AreGoalNodesBelow-grown}
use Rattle.seq_planner.proofs.RunsSoFar.{IsRunSoFar-more}
use Rattle.seq_planner.proofs.textbook_planner.textbook.Goals as goal

pub handle_or_skip-requires-clause-few : goal.handle_or_skip-requires-clause-few
handle_or_skip-requires-clause-few g c κs within =
    let marks : length c.as_slice-marks.result.now ≡ length c.args.task.marks = ap length c.as_slice-marks.ensures in
    omega (arith, c.loop-mark.invariant.run.nodes, length-take c.loop-mark.mark-index c.as_slice-marks.result.now, length-marks c.args.task)

pub handle_or_skip-requires-clause-bounded : goal.handle_or_skip-requires-clause-bounded
handle_or_skip-requires-clause-bounded g c κs within =
    let marks : length c.as_slice-marks.result.now ≡ length c.args.task.marks = ap length c.as_slice-marks.ensures in
    let mark : Point = record { x = 0; y = 0 } in
    let here = All-task_marks_within c.args.task c.loop-mark.mark-index mark (omega arith) in
    rw c.as_slice-marks.ensures here

pub look_at_last-requires-in-loop-mark-clause-few : goal.look_at_last-requires-in-loop-mark-clause-few
look_at_last-requires-in-loop-mark-clause-few g c =
    let marks : length c.as_slice-marks.result.now ≡ length c.args.task.marks = ap length c.as_slice-marks.ensures in
    omega (
      arith,
      c.in_ok-handle_or_skip.ensures.handles.one_more,
      c.loop-mark.invariant.run.nodes,
      length-take c.loop-mark.mark-index c.as_slice-marks.result.now,
      length-marks c.args.task,
    )

pub look_at_last-requires-in-loop-mark-clause-others : goal.look_at_last-requires-in-loop-mark-clause-others
look_at_last-requires-in-loop-mark-clause-others g c k last =
    let goals = skipping_goals c.args.task.scene in
    let before = c.loop-mark.tree in
    let after = c.handle_or_skip.new.tree in
    let grows = c.in_ok-handle_or_skip.ensures.handles in
    let same : length before.nodes ≡ k = omega (arith, last, grows.one_more) in
    subst (λ n. AreGoalNodesBelow goals (points_of after.nodes) n c.loop-mark.goal_nodes.numbers.items) same
    (AreGoalNodesBelow-grown goals c.args.task.scene before after _ c.loop-mark.goal_nodes.numbers.items grows c.loop-mark.invariant.listed)

pub loop-mark-preserved : goal.loop-mark-preserved
loop-mark-preserved g c = record {
  run =
      IsRunSoFar-more c.args.task.scene c.as_slice-marks.result.now c.loop-mark.tree c.handle_or_skip.new.tree c.loop-mark.mark-index _
      c.loop-mark.invariant.run c.loop-mark-test.true (get_or_default c.as_slice-marks.result.now c.loop-mark.mark-index _ _ c.loop-mark-test.true)
      c.in_ok-handle_or_skip.ensures.handles c.in_ok-handle_or_skip.ensures.sound;
  listed = c.in_ok-look_at_last-2.ensures;
}
