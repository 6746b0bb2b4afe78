use Rattle.report_judge.proofs.Words.{◌≡◌, Some, length, arith, ap, sym, ◌∙◌, slice_get_within, Record, state_of_lists, KeepsRecord, KeepsRecordBetween}
use Rattle.report_judge.proofs.Workers.OwnMarkLaws.{IsFirstBreak-seen, mark_among, mark_of}
use Rattle.report_judge.proofs.Workers.OwnNodeLaws.{AreStandings-earlier}
use Rattle.report_judge.proofs.marks.lawful_records.first_unlawful_between.Goals as goal

pub first_unlawful_among-requires-clause-judged : goal.first_unlawful_among-requires-clause-judged
first_unlawful_among-requires-clause-judged g c κs within =
    let listed = c.args.listed.now in
    let own = c.args.own.now in
    let run = state_of_lists listed.knots.now listed.records.now in
    record {
      numbers = c.requires.listed.numbers;
      few = c.requires.listed.few;
      fit = c.requires.listed.fit;
      first = c.requires.listed.first;
      present = c.requires.listed.present;
      own = c.in_ok-nodes.ensures;
      standings =
          rw c.deref.ensures.value
          (AreStandings-earlier run own.turns.worker c.args.to (length own.turns.marks.items) own.standings.items c.requires.to c.requires.own.standings);
      count = c.requires.listed.count;
    }

pub first_unlawful_among-requires-clause-among : goal.first_unlawful_among-requires-clause-among
first_unlawful_among-requires-clause-among g c κs within k there =
    mark_among c.args.listed.now.records.now c.args.own.now.turns.worker c.args.from c.args.to c.in_ok-marks.marks c.in_ok-marks.ensures k there

pub returns : goal.returns
returns g c =
    let task = c.args.listed.now.task.now in
    let knots = c.args.listed.now.knots.now in
    let records = c.args.listed.now.records.now in
    let worker = c.args.own.now.turns.worker in
    let marks = c.in_ok-marks.marks in
    IsFirstBreak-seen (KeepsRecord task knots records) marks (KeepsRecordBetween worker c.args.from c.args.to task knots records) (length records)
    c.first_unlawful_among.result
    (λ k there.
    let between = mark_of records worker c.args.from c.args.to marks c.in_ok-marks.ensures k there in
    slice_get_within records k between.entry between.at)
    (λ k kept entry is mine past before.
    kept (c.in_ok-marks.ensures.each k (record { entry = entry; at = is; worker = mine; past = past; before = before })) entry is)
    (λ k there kept entry is.
    let between = mark_of records worker c.args.from c.args.to marks c.in_ok-marks.ensures k there in
    let both : Some between.entry ≡ Some entry = sym between.at ∙ is in
    let same : between.entry ≡ entry = cc in
    kept entry is (ap (λ (r : Record). r.worker) (sym same) ∙ between.worker) (omega (arith, between.past, ap (λ (r : Record). r.turn) same))
    (omega (arith, between.before, ap (λ (r : Record). r.turn) same)))
    c.first_unlawful_among.ensures
