use Rattle.plan_words.proofs.Words.{◌≡◌, ◌+◌, length, IsPassOf, StandsFor, each_after}
use Rattle.plan_words.proofs.shared.Shared.hand_on_all.Given as goal

-- the first pass stands for worker 0 and those that have no pass yet
abbrev pub invariant-loop-worker : goal.invariant-loop-worker
invariant-loop-worker l = record {
  stands : StandsFor l.self l.initial.first l.worker l.first;
  counted : length l.passes.items + 1 ≡ l.worker;
  passes : each_after (IsPassOf l.self l.initial.first) l.passes.items;
}
