use Rattle.report_judge.proofs.Words.{◌≡◌, ◌<◌, Some, length, arith, refl, sym, ◌∙◌, subst, below_more, slice_get, slice_get_read, Record, turns_of, HasLowTurn}
use Rattle.report_judge.proofs.marks.turns.first_high_turn.Goals as goal

pub bounds-counts-entry : goal.bounds-counts-entry
bounds-counts-entry c =
    let records = c.args.records.now in
    let mark = c.loop-k.k in
    let entry = c.index-records-k.result in
    let at = slice_get_read records (length records) mark entry refl c.loop-k-test.true c.index-records-k.is in
    (c.requires.fit mark entry at).worker

pub returns-then-entry-counts : goal.returns-then-entry-counts
returns-then-entry-counts c =
    let records = c.args.records.now in
    let mark = c.loop-k.k in
    let entry = c.index-records-k.result in
    let at = slice_get_read records (length records) mark entry refl c.loop-k-test.true c.index-records-k.is in
    let worker = (c.requires.fit mark entry at).worker in (
      c.loop-k-test.true,
      c.loop-k.invariant,
      λ low. omega (arith, low entry at, c.if-entry-counts.true, c.marks_by_worker-counts.ensures entry.worker worker),
    )

pub loop-k-preserved : goal.loop-k-preserved
loop-k-preserved c =
    let records = c.args.records.now in
    let mark = c.loop-k.k in
    let entry = c.index-records-k.result in
    let at = slice_get_read records (length records) mark entry refl c.loop-k-test.true c.index-records-k.is in
    let worker = (c.requires.fit mark entry at).worker in
    let low : entry.turn < turns_of (slice_get records) (length records) entry.worker =
    omega (arith, c.if-entry-counts.false, c.marks_by_worker-counts.ensures entry.worker worker) in
    below_more (HasLowTurn records) mark c.loop-k.invariant
    (λ other is.
    let both : Some entry ≡ Some other = sym at ∙ is in
    let same : entry ≡ other = cc in
    subst (λ (r : Record). r.turn < turns_of (slice_get records) (length records) r.worker) same low)
