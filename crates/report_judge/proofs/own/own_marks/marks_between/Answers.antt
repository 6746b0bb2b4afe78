use Rattle.report_judge.proofs.Words.{◌≡◌, ◌<◌, [], ◌∷◌, ◌++◌, length, arith, sym, ap, ◌∙◌, subst, All, slice_index_or, All-push, Point, IsBounded}
use Rattle.report_judge.proofs.Words.{All-task_marks_within, Numbered, AreMarksBetween}
use Rattle.report_judge.proofs.Workers.SeenTurns.{low_mark, mark_read}
use Rattle.report_judge.proofs.Workers.OwnMarkLaws.{AreMarksBetween-more, AreMarksBetween-none, AreMarksBetween-same, AreMarksBetween-sorted}
use Rattle.report_judge.proofs.own.own_marks.marks_between.Goals as goal
use Rattle.report_judge.proofs.own.own_marks.marks_between.Goals.{in-Some+in_ok-push, in_default}

pub loop-turn-init : goal.loop-turn-init
loop-turn-init c = record {
  between =
      subst (AreMarksBetween c.args.records.now c.args.turns.now.worker c.args.from c.args.from) (sym c.new-marks.ensures.items)
      (AreMarksBetween-none c.args.records.now c.args.turns.now.worker c.args.from);
  bounded = subst (All (λ (m : Numbered). IsBounded m.point)) (sym c.new-marks.ensures.items) (λ i d low. absurd (omega (arith, low)));
}

pub bounds-points-number : goal.bounds-points-number
bounds-points-number c =
    let records = c.args.records.now in
    let worker = c.args.turns.now.worker in
    let turn = c.loop-turn.turn in
    let told =
    mark_read records worker c.args.turns.now.marks.items turn c.index.result.now (omega (arith, c.loop-turn-test.true, c.requires.to)) c.requires.turns
    c.index.ensures in
    let inside : c.in-Some.number < length records = rw c.in-Some.is at (low_mark records worker turn c.index.result.now told) in
    omega (arith, inside, c.requires.marks, ap length c.as_slice-points.ensures)

pub loop-turn-preserved : goal.loop-turn-preserved
loop-turn-preserved c =
    let records = c.args.records.now in
    let worker = c.args.turns.now.worker in
    let turn = c.loop-turn.turn in
    let old = c.loop-turn.marks.items in
    let told =
    mark_read records worker c.args.turns.now.marks.items turn c.index.result.now (omega (arith, c.loop-turn-test.true, c.requires.to)) c.requires.turns
    c.index.ensures in
    elim c.match-index.branch [
      | in-Some+in_ok-push w ↦ (
          let number = w.in-Some.number in
          let origin : Point = record { x = 0; y = 0 } in
          let p : Point = slice_index_or c.as_slice-points.result.now number origin in
          let added : Numbered = record { point = p; number = number } in
          let items : c.match-index.marks.items ≡ old ++ added ∷ [] = ap (λ v. v.items) w.marks-is ∙ w.in_ok-push.ensures.items in
          let inside : number < length records = rw w.in-Some.is at (low_mark records worker turn c.index.result.now told) in
          let bounded : IsBounded p =
          rw c.as_slice-points.ensures (All-task_marks_within c.args.task.now number origin (omega (arith, inside, c.requires.marks))) in
          record {
            between =
                rw items
                (AreMarksBetween-more records worker c.args.from c.requires.own turn c.loop-turn.auto.turn old c.index.result.now number p
                c.loop-turn.invariant.between told w.in-Some.is);
            bounded = rw items (All-push (λ (m : Numbered). IsBounded m.point) old added c.loop-turn.invariant.bounded bounded);
          })
      | in_default w ↦ (
          let items : c.match-index.marks.items ≡ old = ap (λ v. v.items) w.marks-is in
          record {
            between =
                rw items
                (AreMarksBetween-same records worker c.args.from turn old c.index.result.now c.loop-turn.invariant.between told w.in_default.is);
            bounded = rw items c.loop-turn.invariant.bounded;
          })
    ]

pub returns : goal.returns
returns c =
    let end : c.loop-turn.turn ≡ c.args.to =
    omega (arith, c.loop-turn-test.false, c.loop-turn.auto.turn-end, c.requires.onward) in
    subst (λ t. AreMarksBetween c.args.records.now c.args.turns.now.worker c.args.from t c.new.result) end
    (AreMarksBetween-sorted c.args.records.now c.args.turns.now.worker c.args.from c.loop-turn.turn c.loop-turn.marks.items c.new.result
    c.loop-turn.invariant.between c.new.ensures)
