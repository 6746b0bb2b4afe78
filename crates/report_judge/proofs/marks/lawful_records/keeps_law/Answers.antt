use Rattle.report_judge.proofs.Words.{◌≡◌, ◌<◌, None, length, arith, sym, ap, ◌∙◌, subst, slice_index_or, get_or_default, get_or_from_slice_get}
use Rattle.report_judge.proofs.Words.{slice_get-get_or, slice_get_within, Point, Record, IsLawfulRecord, skipping_goals, All-task_marks_within, IsAsked}
use Rattle.report_judge.proofs.Words.{IsJudged, run_of, AreSeen, Seen, mark_at, setup_by}
use Rattle.report_judge.proofs.marks.lawful_records.keeps_law.Goals as goal

pub bounds-judged-k : goal.bounds-judged-k
bounds-judged-k g c = slice_get_within c.args.judged.now.records.now c.args.k c.requires.between.entry c.requires.between.at

pub index-seen-requires : goal.index-seen-requires
index-seen-requires g c =
    let b = c.requires.between in
    let same = get_or_from_slice_get c.args.judged.now.records.now c.args.k b.entry c.index-judged-k.result b.at in
    omega (
      arith,
      ap (λ (r : Record). r.turn) same,
      b.before,
      c.requires.turns,
      c.requires.own.seen_long,
      c.args.own.now.seen.ok,
    )

pub is_lawful-requires-clause-asked : goal.is_lawful-requires-clause-asked
is_lawful-requires-clause-asked g c κs within =
    let origin : Point = record { x = 0; y = 0 } in
    let b = c.requires.between in
    let judged = c.args.judged.now in
    let space = g.C.Clearing.space c.args.hall.now in
    let same = get_or_from_slice_get judged.records.now c.args.k b.entry c.index-judged-k.result b.at in
    let inside = slice_get_within judged.records.now c.args.k b.entry b.at in
    subst (λ r. IsAsked space judged r (slice_index_or c.as_slice.result.now c.args.k origin)) (sym same)
    (record {
      space_is = c.requires.hall;
      radii_are = c.requires.radii;
      judges = subst (λ w. IsJudged w judged) (sym b.worker) c.requires.judged;
      turn = omega (arith, b.before);
      own = c.requires.judged.first c.args.k b.entry b.at;
      bounded = rw c.as_slice.ensures (All-task_marks_within judged.task.now c.args.k origin (omega (arith, inside, c.requires.marks)));
    })

pub is_lawful-requires-clause-low : goal.is_lawful-requires-clause-low
is_lawful-requires-clause-low g c κs within =
    let b = c.requires.between in
    omega (arith, slice_get_within c.args.judged.now.records.now c.args.k b.entry b.at, c.requires.few)

pub is_lawful-requires-clause-seen : goal.is_lawful-requires-clause-seen
is_lawful-requires-clause-seen g c κs within =
    let b = c.requires.between in
    let judged = c.args.judged.now in
    let seen = c.args.own.now.seen.items in
    let none : Seen = record { nodes = 0; least = None } in
    let same = get_or_from_slice_get judged.records.now c.args.k b.entry c.index-judged-k.result b.at in
    let low : b.entry.turn < length seen = omega (arith, b.before, c.requires.turns, c.requires.own.seen_long) in
    let read : c.index-seen.result.now ≡ slice_index_or seen b.entry.turn none =
    c.index-seen.ensures
    ∙ ap (λ (r : Record). slice_index_or seen r.turn c.index-seen.result.now) same
    ∙ get_or_default seen b.entry.turn c.index-seen.result.now none low in
    let told = c.requires.own.seen b.entry.turn (slice_index_or seen b.entry.turn none) (slice_get-get_or seen b.entry.turn none low) in
    subst (λ (r : Record). AreSeen (skipping_goals judged.task.now.scene) (run_of judged) r.worker r.turn c.index-seen.result.now) (sym same)
    (rw (read, b.worker) told)

pub returns : goal.returns
returns g c =
    let judged = c.args.judged.now in
    let Kept : Record → Type 0 = λ r. IsLawfulRecord (setup_by judged) (run_of judged) c.args.k (mark_at judged.task.now.marks c.args.k) r in (
      λ h entry is.
          subst Kept (get_or_from_slice_get judged.records.now c.args.k entry c.index-judged-k.result is)
          (rw c.as_slice.ensures at (c.is_lawful.ensures.0 h)),
      λ kept.
          let b = c.requires.between in
          let same = get_or_from_slice_get judged.records.now c.args.k b.entry c.index-judged-k.result b.at in
          (rw c.as_slice.ensures at c.is_lawful.ensures.1) (subst Kept (sym same) (kept b.entry b.at)),
    )
