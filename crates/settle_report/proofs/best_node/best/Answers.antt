use Rattle.settle_report.proofs.Words.{◌≡◌, ℕ, ◌+◌, ◌-◌, Some, arith, sym, ap, ◌∙◌, goals_of, lesser, sum_in, state_of_grown}
use Rattle.settle_report.proofs.GoalNodes.{best_of, best_of-goal_node, best_of-other, best_of-all}
use Rattle.settle_report.proofs.best_node.best.Goals as goal

pub loop-node-init : goal.loop-node-init
loop-node-init c =
    let grown = c.args.grown.now in
    let none : grown.limit + 1 - (c.limit-node.result + 1) ≡ 0 = omega (arith, c.limit-node.ensures) in
    record { least = sym (ap (best_of (goals_of grown.task.scene) (state_of_grown grown) (c.limit-node.result + 1)) none); present = tt }

pub loop-node-preserved-then-is_goal_node : goal.loop-node-preserved-then-is_goal_node
loop-node-preserved-then-is_goal_node c =
    let grown = c.args.grown.now in
    let state = state_of_grown grown in
    let next = c.loop-node.node in
    let all : ℕ = grown.limit + 1 in
    let here =
    best_of-goal_node (goals_of grown.task.scene) state (next - 1) next (all - (next - 1)) (all - next) (omega arith)
    (omega (arith, c.limit-node.ensures)) (sym (rw (c.as_slice-goals.ensures, c.task.ensures) at c.is_goal_node.ensures.value) ∙ c.if-is_goal_node.true) in
    record {
      least = ap Some (c.better_node.ensures.value ∙ ap (lesser (sum_in state) (next - 1)) c.loop-node.invariant.least) ∙ sym here;
      present = c.better_node.ensures.present;
    }

pub loop-node-preserved : goal.loop-node-preserved
loop-node-preserved c =
    let grown = c.args.grown.now in
    let next = c.loop-node.node in
    let all : ℕ = grown.limit + 1 in
    record {
      least =
          c.loop-node.invariant.least
          ∙ sym (best_of-other (goals_of grown.task.scene) (state_of_grown grown) (next - 1) next (all - (next - 1)) (all - next) (omega arith)
          (omega (arith, c.limit-node.ensures))
          (sym (rw (c.as_slice-goals.ensures, c.task.ensures) at c.is_goal_node.ensures.value) ∙ c.if-is_goal_node.false));
      present = c.loop-node.invariant.present;
    }

pub returns-clause-value : goal.returns-clause-value
returns-clause-value c =
    let grown = c.args.grown.now in
    c.loop-node.invariant.least
    ∙ best_of-all (goals_of grown.task.scene) (state_of_grown grown) grown.limit c.loop-node.node (grown.limit + 1 - c.loop-node.node) (omega arith)
    (omega arith)
