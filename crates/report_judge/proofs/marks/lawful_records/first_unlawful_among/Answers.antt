use Rattle.report_judge.proofs.Words.{◌≡◌, ◌+◌, Some, length, arith, ap, sym, subst, iff_false, numbered_at, Numbered, KeepsRecord, IsFirstSeen}
use Rattle.report_judge.proofs.Workers.OwnMarkLaws.{IsFirstSeen-broken, IsFirstSeen-kept, IsFirstSeen-past, may_come_first}
use Rattle.report_judge.proofs.marks.lawful_records.first_unlawful_among.Goals as goal
use Rattle.report_judge.proofs.marks.lawful_records.first_unlawful_among.Goals.{then-may_be_first+then-not-keeps_law}
use Rattle.report_judge.proofs.marks.lawful_records.first_unlawful_among.Goals.{then-may_be_first+else-not-keeps_law, else-may_be_first}

pub keeps_law-requires-clause-between : goal.keeps_law-requires-clause-between
keeps_law-requires-clause-between g c κs within =
    c.requires.among c.at-k.result.number
    (record {
      position = c.loop-position.position;
      inside = omega (arith, c.loop-position-test.true, c.len-position-end.ensures);
      number = ap (λ (m : Numbered). m.number) (sym c.at-k.ensures.value);
    })

pub loop-position-preserved : goal.loop-position-preserved
loop-position-preserved g c =
    let Keeps = KeepsRecord c.args.judged.now.task.now c.args.judged.now.knots.now c.args.judged.now.records.now in
    let marks = c.args.marks.now in
    let position = c.loop-position.position in
    let mark = c.at-k.result.number in
    let is : mark ≡ (numbered_at marks position).number = ap (λ (m : Numbered). m.number) c.at-k.ensures.value in
    elim c.if-may_be_first.branch [
      | then-may_be_first+then-not-keeps_law w ↦
          rw w.first-is
          (subst (λ n. IsFirstSeen Keeps marks (position + 1) (Some n)) (sym is)
          (IsFirstSeen-broken Keeps marks position c.loop-position.first c.loop-position.invariant
          (omega (arith, c.loop-position-test.true, c.len-position-end.ensures))
          (may_come_first Keeps marks position mark c.loop-position.first c.may_be_first.result is w.if-may_be_first.true c.may_be_first.ensures.some)
          (λ kept. iff_false w.keeps_law.ensures w.if-not-keeps_law.true (subst Keeps (sym is) kept))))
      | then-may_be_first+else-not-keeps_law w ↦
          rw w.first-is
          (IsFirstSeen-kept Keeps marks position c.loop-position.first c.loop-position.invariant
          (subst Keeps is (w.keeps_law.ensures.0 w.if-not-keeps_law.false)))
      | else-may_be_first w ↦
          rw w.first-is
          (IsFirstSeen-past Keeps marks position mark c.loop-position.first c.may_be_first.result is w.if-may_be_first.false c.may_be_first.ensures.none
          c.may_be_first.ensures.some c.loop-position.invariant)
    ]

pub returns : goal.returns
returns g c =
    let Keeps = KeepsRecord c.args.judged.now.task.now c.args.judged.now.knots.now c.args.judged.now.records.now in
    let end : c.loop-position.position ≡ length c.args.marks.now =
    omega (arith, c.loop-position-test.false, c.loop-position.auto.position-end, c.len-position-end.ensures) in
    subst (λ n. IsFirstSeen Keeps c.args.marks.now n c.loop-position.first) end c.loop-position.invariant
