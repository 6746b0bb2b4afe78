use Rattle.std.proofs.Common.{◌≡◌, ℕ, ◌<◌, length}
use Rattle.report_judge.proofs.Workers.SeenTurns.{IsMarkBelow}
use Rattle.report_judge.proofs.own.own_turns.marks_by_turn.Given as goal

-- the marks so far stand at their turns
abbrev pub invariant-loop-k : goal.invariant-loop-k
invariant-loop-k l = record {
  long : length l.order.items ≡ l.turns;
  marks : (turn : ℕ) → turn < l.turns → IsMarkBelow l.records l.worker turn l.k l.order.items;
}
