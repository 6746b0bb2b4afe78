use Rattle.seq_planner.proofs.Words.{◌≡◌, ℕ, ◌+◌, ◌-◌, false, true, None, get_or, length, ap, ◌∙◌, subst, sym, arith, skipping_goals, lies_in_goals}
use Rattle.seq_planner.proofs.Words.{points_of, AreGoalNodesBelow}
use Rattle.seq_planner.proofs.GoalNodeLists.{AreGoalNodesBelow-absent, AreGoalNodesBelow-beside, AreGoalNodesBelow-in_goal, skipping_goals-by}
use Rattle.seq_planner.proofs.goal_nodes.GoalNodes.look_at_last.Goals as goal
use Rattle.seq_planner.proofs.goal_nodes.GoalNodes.look_at_last.Goals.{else-scene-via-then-scene+else-lies_in_goals, else-scene-via-else-scene}

pub returns-in_ok-push : goal.returns-in_ok-push
returns-in_ok-push c =
    let nodes = c.args.tree.now.nodes in
    let k : ℕ = length c.as_slice-nodes.result.now - 1 in
    let last : length c.as_slice-nodes.result.now - 1 + 1 ≡ length nodes = omega (arith, ap length c.as_slice-nodes.ensures, c.requires.some) in
    let goals : skipping_goals c.args.scene.now ≡ c.args.scene.now.goals = skipping_goals-by c.args.scene.now true c.if-scene.true in
    let inside : lies_in_goals (skipping_goals c.args.scene.now) c.in-Some.node.point ≡ true =
    ap (λ gs. lies_in_goals gs c.in-Some.node.point) (goals ∙ sym c.as_slice.ensures) ∙ sym c.lies_in_goals.ensures ∙ c.if-lies_in_goals.true in
    subst (AreGoalNodesBelow (skipping_goals c.args.scene.now) (points_of nodes) (length nodes)) (sym c.in_ok-push.ensures.items)
    (AreGoalNodesBelow-in_goal (skipping_goals c.args.scene.now) nodes k c.args.self.now.numbers.items (c.requires.others k last) last c.in-Some.node
    (ap (λ l. get_or l k None) (sym c.as_slice-nodes.ensures) ∙ c.in-Some.is) inside)

pub returns-else-scene : goal.returns-else-scene
returns-else-scene c =
    let nodes = c.args.tree.now.nodes in
    let k : ℕ = length c.as_slice-nodes.result.now - 1 in
    let last : length c.as_slice-nodes.result.now - 1 + 1 ≡ length nodes = omega (arith, ap length c.as_slice-nodes.ensures, c.requires.some) in
    let outside : lies_in_goals (skipping_goals c.args.scene.now) c.in-Some.node.point ≡ false = elim c.else-scene.branch [
      | else-scene-via-then-scene+else-lies_in_goals w ↦
          ap (λ gs. lies_in_goals gs c.in-Some.node.point) (skipping_goals-by c.args.scene.now true w.if-scene.true ∙ sym w.as_slice.ensures)
          ∙ sym w.lies_in_goals.ensures ∙ w.if-lies_in_goals.false
      | else-scene-via-else-scene w ↦
          ap (λ gs. lies_in_goals gs c.in-Some.node.point) (skipping_goals-by c.args.scene.now false w.if-scene.false)
    ] in
    AreGoalNodesBelow-beside (skipping_goals c.args.scene.now) nodes k c.args.self.now.numbers.items (c.requires.others k last) last c.in-Some.node
    (ap (λ l. get_or l k None) (sym c.as_slice-nodes.ensures) ∙ c.in-Some.is) outside

pub returns-in_default : goal.returns-in_default
returns-in_default c =
    let nodes = c.args.tree.now.nodes in
    let k : ℕ = length c.as_slice-nodes.result.now - 1 in
    let last : length c.as_slice-nodes.result.now - 1 + 1 ≡ length nodes = omega (arith, ap length c.as_slice-nodes.ensures, c.requires.some) in
    AreGoalNodesBelow-absent (skipping_goals c.args.scene.now) nodes k c.args.self.now.numbers.items (c.requires.others k last) last
    (ap (λ l. get_or l k None) (sym c.as_slice-nodes.ensures) ∙ c.in_default.is)
