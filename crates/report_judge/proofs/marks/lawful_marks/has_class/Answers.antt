use Rattle.report_judge.proofs.Words.{arith, refl, leb-true, node_count-some, node_count-length, class_below, run_of}
use Rattle.report_judge.proofs.Workers.ClassRadii.{some_class, some_earlier}
use Rattle.report_judge.proofs.Workers.SeenStarts.{length-points}
use Rattle.report_judge.proofs.marks.lawful_marks.has_class.Goals as goal

pub class-requires-then-class-entry : goal.class-requires-then-class-entry
class-requires-then-class-entry c =
    let run = run_of c.args.judged.now in
    omega (
      arith,
      c.from-then-class-entry.ensures,
      c.requires.judged.count,
      node_count-some run.points 0 (c.requires.judged.present c.args.entry 0 refl),
    )

pub returns-then-class-entry-clause-range : goal.returns-then-class-entry-clause-range
returns-then-class-entry-clause-range c = λ h.
    let run = run_of c.args.judged.now in
    let long = length-points c.args.judged.now.knots.now in
    let some = some_earlier run c.args.entry (omega (arith, long, c.requires.judged.numbers)) in
    let first = some_class c.from.result c.class.result (omega (arith, c.from.ensures, c.requires.seen, some)) c.class.ensures.high in
    let most = class_below c.class-then-class-entry.result c.from-then-class-entry.result c.class-then-class-entry.ensures.low
    (omega (
      arith,
      c.from-then-class-entry.ensures,
      c.requires.judged.count,
      c.requires.judged.numbers,
      c.requires.judged.few,
      long,
      node_count-length run.points,
    )) in
    (omega (arith, first, c.if-class-entry.true), omega (arith, most, leb-true c.args.entry.class c.class-then-class-entry.result h))
