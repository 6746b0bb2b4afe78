use Rattle.report_judge.proofs.Words.{All, IsBounded, AreMarksBetween}
use Rattle.report_judge.proofs.own.own_marks.marks_between.Given as goal

-- the marks of the turns so far
abbrev pub invariant-loop-turn : goal.invariant-loop-turn
invariant-loop-turn l = record {
  between : AreMarksBetween l.records l.turns.worker l.fn.from l.turn l.marks.items;
  bounded : All (λ n. IsBounded n.point) l.marks.items;
}
