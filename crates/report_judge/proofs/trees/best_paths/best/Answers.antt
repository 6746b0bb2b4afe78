use Rattle.report_judge.proofs.Words.{◌≡◌, ℕ, ◌-◌, [], length, Some, arith, sym, ap, ◌∙◌, lesser, sum_in, state_of_lists, best_of, best_of-goal_node}
use Rattle.report_judge.proofs.Words.{best_of-other, best_of-all}
use Rattle.report_judge.proofs.trees.best_paths.best.Goals as goal

pub loop-node-init : goal.loop-node-init
loop-node-init c =
    let knots = c.args.knots.now in
    let none : length knots - length knots ≡ 0 = omega arith in
    record { least = sym (ap (best_of c.args.goals.now (state_of_lists knots []) (length knots)) none); present = tt }

pub loop-node-preserved-then-is_goal_node : goal.loop-node-preserved-then-is_goal_node
loop-node-preserved-then-is_goal_node c =
    let state = state_of_lists c.args.knots.now [] in
    let next = c.loop-node.node in
    let all : ℕ = length c.args.knots.now in
    let here =
    best_of-goal_node c.args.goals.now state (next - 1) next (all - (next - 1)) (all - next) (omega arith) (omega arith)
    (sym c.is_goal_node.ensures.value ∙ c.if-is_goal_node.true) in
    record {
      least = ap Some (c.better_node.ensures.value ∙ ap (lesser (sum_in state) (next - 1)) c.loop-node.invariant.least) ∙ sym here;
      present = c.better_node.ensures.present;
    }

pub loop-node-preserved : goal.loop-node-preserved
loop-node-preserved c =
    let state = state_of_lists c.args.knots.now [] in
    let next = c.loop-node.node in
    let all : ℕ = length c.args.knots.now in
    record {
      least =
          c.loop-node.invariant.least
          ∙ sym (best_of-other c.args.goals.now state (next - 1) next (all - (next - 1)) (all - next) (omega arith) (omega arith)
          (sym c.is_goal_node.ensures.value ∙ c.if-is_goal_node.false));
      present = c.loop-node.invariant.present;
    }

pub returns-clause-value : goal.returns-clause-value
returns-clause-value c =
    let all : ℕ = length c.args.knots.now in
    c.loop-node.invariant.least
    ∙ best_of-all c.args.goals.now (state_of_lists c.args.knots.now []) (all - 1) c.loop-node.node (all - c.loop-node.node) (omega arith) (omega arith)
