use Rattle.report_judge.proofs.Words.{All, IsBounded, state_of_lists, AreNodesBefore}
use Rattle.report_judge.proofs.own.own_nodes.nodes_before.Given as goal

-- the nodes of the worker so far
abbrev pub invariant-loop-turn : goal.invariant-loop-turn
invariant-loop-turn l = record {
  before : AreNodesBefore (state_of_lists l.knots l.records) l.turns.worker l.turn l.nodes.items;
  bounded : All (λ n. IsBounded n.point) l.nodes.items;
}
