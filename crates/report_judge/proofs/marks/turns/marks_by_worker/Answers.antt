use Rattle.report_judge.proofs.Words.{◌≡◌, ℕ, suc, ◌+◌, ◌<◌, cond, eqb, List, length, Some, arith, refl, sym, ap, ◌∙◌, inl, inr, slice_get, slice_index_or}
use Rattle.report_judge.proofs.Words.{slice_set, cases_eq, eq-eqb, ne_eqb, get_or-set_at, get_or-replicate, get_or-set_other, slice_get_read, Record}
use Rattle.report_judge.proofs.Words.{is_of_worker, turns_of, count-more}
use Rattle.std.proofs.lemmas.List.{length-set}
use Rattle.report_judge.proofs.Laws.TurnBreaks.{turns_at_most}
use Rattle.report_judge.proofs.marks.turns.marks_by_worker.Goals as goal

-- one mark more is counted for its worker
turns-more : (records : List Record) (i w : ℕ) (entry : Record) → slice_get records i ≡ Some entry
    → turns_of (slice_get records) (i + 1) w ≡ turns_of (slice_get records) i w + cond {A = ℕ} (eqb entry.worker w) 1 0
turns-more records i w entry is =
    let next : i + 1 ≡ suc i = omega arith in
    ap (λ n. turns_of (slice_get records) n w) next
    ∙ count-more (λ k. is_of_worker w (slice_get records k)) i
    ∙ ap (λ o. turns_of (slice_get records) i w + cond {A = ℕ} (is_of_worker w o) 1 0) is

-- so the counts stay true
counted-more : (records : List Record) (counts : List ℕ) (i : ℕ) (entry : Record) → slice_get records i ≡ Some entry → entry.worker < length counts
    → ((w : ℕ) → w < 64 → slice_index_or counts w 0 ≡ turns_of (slice_get records) i w) → (w : ℕ) → w < 64
    → slice_index_or (slice_set counts entry.worker (slice_index_or counts entry.worker 0 + 1)) w 0 ≡ turns_of (slice_get records) (i + 1) w
counted-more records counts i entry is within counted w low =
    elim (cases_eq w entry.worker) [
      | inl own ↦
          omega (
            arith,
            get_or-set_at counts entry.worker w (slice_index_or counts entry.worker 0 + 1) 0 own within,
            ap (λ n. slice_index_or counts n 0) own,
            counted w low,
            turns-more records i w entry is,
            ap (λ b. cond {A = ℕ} b 1 0) (eq-eqb entry.worker w (sym own)),
          )
      | inr apart ↦
          omega (
            arith,
            get_or-set_other counts entry.worker w (slice_index_or counts entry.worker 0 + 1) 0 apart,
            counted w low,
            turns-more records i w entry is,
            ap (λ b. cond {A = ℕ} b 1 0) (ne_eqb entry.worker w (λ e. apart (sym e))),
          )
    ]

pub loop-entry-init : goal.loop-entry-init
loop-entry-init c = record { long = refl; counted = λ w low. get_or-replicate 64 w 0 0 low }

pub bounds-counts-entry : goal.bounds-counts-entry
bounds-counts-entry c =
    let records = c.args.records.now in
    let found = slice_get_read records (length records) c.loop-entry.entry-index c.entry-item.result refl c.loop-entry-test.true c.entry-item.is in
    (c.requires.fit c.loop-entry.entry-index c.entry-item.result found).worker

pub bounds-counts-entry-in-loop-entry : goal.bounds-counts-entry-in-loop-entry
bounds-counts-entry-in-loop-entry c =
    let records = c.args.records.now in
    let found = slice_get_read records (length records) c.loop-entry.entry-index c.entry-item.result refl c.loop-entry-test.true c.entry-item.is in
    (c.requires.fit c.loop-entry.entry-index c.entry-item.result found).worker

pub overflow_add-counts : goal.overflow_add-counts
overflow_add-counts c =
    let records = c.args.records.now in
    let found = slice_get_read records (length records) c.loop-entry.entry-index c.entry-item.result refl c.loop-entry-test.true c.entry-item.is in
    let low = (c.requires.fit c.loop-entry.entry-index c.entry-item.result found).worker in
    omega (
      arith,
      c.loop-entry.invariant.counted c.entry-item.result.worker low,
      turns_at_most c.args.records.now c.loop-entry.entry-index c.entry-item.result.worker,
      c.loop-entry-test.true,
      c.requires.few,
    )

pub loop-entry-preserved : goal.loop-entry-preserved
loop-entry-preserved c =
    let records = c.args.records.now in
    let found = slice_get_read records (length records) c.loop-entry.entry-index c.entry-item.result refl c.loop-entry-test.true c.entry-item.is in
    let low = (c.requires.fit c.loop-entry.entry-index c.entry-item.result found).worker in
    record {
      long = length-set c.loop-entry.counts c.entry-item.result.worker _ ∙ c.loop-entry.invariant.long;
      counted =
          counted-more c.args.records.now c.loop-entry.counts c.loop-entry.entry-index c.entry-item.result found
          (omega (arith, low, c.loop-entry.invariant.long)) c.loop-entry.invariant.counted;
    }
