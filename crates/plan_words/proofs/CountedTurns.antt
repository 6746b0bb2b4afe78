-- How many records each worker has among the words of a run, when one mark more is read.
use Rattle.plan_words.proofs.Words.{◌≡◌, ℕ, suc, ◌+◌, ◌<◌, ◌≤◌, Bool, true, false, cond, List, length, replicate, Option, Some, sym, ap, ◌∙◌, inl, inr}
use Rattle.plan_words.proofs.Words.{arith, slice_index, slice_set, range_with_len, cases_eq, ne_eqb, get_or-replicate, get_or-set_other, get_or-set_same}
use Rattle.plan_words.proofs.Words.{length-range_with_len, count_by-le-length, is_of_worker, turns_of, Record, count-more}
use Rattle.std.proofs.lemmas.Bool.{eq-eqb}

-- a list says of each worker how many of the marks below the limit it has handled
abbrev pub AreCounted : (ℕ → Option Record) → ℕ → ℕ → List ℕ → Type 0
AreCounted record_of workers limit turns = (w : ℕ) → w < workers → slice_index turns w ≡ turns_of record_of limit w

-- no worker has handled more than all
pub turns_of-few : (record_of : ℕ → Option Record) (limit worker : ℕ) → turns_of record_of limit worker ≤ limit
turns_of-few record_of limit worker =
    omega (arith, count_by-le-length (λ k. is_of_worker worker (record_of k)) (range_with_len 0 limit), length-range_with_len 0 limit)

-- at limit 0 none is handled
pub AreCounted-none : (record_of : ℕ → Option Record) (workers : ℕ) → AreCounted record_of workers 0 (replicate workers 0)
AreCounted-none record_of workers w low = get_or-replicate workers w 0 0 low

-- ---- one mark more

module _ (record_of : ℕ → Option Record) (mark : ℕ) where
  turns_of-more : (worker : ℕ) (own : Bool) → is_of_worker worker (record_of mark) ≡ own
      → turns_of record_of (mark + 1) worker ≡ turns_of record_of mark worker + cond own 1 0
  turns_of-more worker own is =
      let next : mark + 1 ≡ suc mark = omega arith in
      ap (λ n. turns_of record_of n worker) next
      ∙ count-more (λ k. is_of_worker worker (record_of k)) mark
      ∙ ap (λ b. turns_of record_of mark worker + cond b 1 0) is

  module _ (workers : ℕ) (turns : List ℕ) (counted : AreCounted record_of workers mark turns) where
    -- with the record of a worker past the last
    pub AreCounted-past : (entry : Record) → record_of mark ≡ Some entry → workers ≤ entry.worker → AreCounted record_of workers (mark + 1) turns
    AreCounted-past entry is past w low =
        omega (arith, counted w low, turns_of-more w false (ap (is_of_worker w) is ∙ ne_eqb entry.worker w (λ e. omega (arith, e, low, past))))

    -- with the record of one of them
    pub AreCounted-one :
        (entry : Record) → record_of mark ≡ Some entry → entry.worker < workers → length turns ≡ workers → (turn : ℕ) → turn ≡ slice_index turns entry.worker
        → AreCounted record_of workers (mark + 1) (slice_set turns entry.worker (turn + 1))
    AreCounted-one entry is own sized turn was w low =
        elim (cases_eq w entry.worker) [
          | inl e ↦ (
              let within : entry.worker < length turns = omega (arith, own, sized) in
              let here = ap (slice_index (slice_set turns entry.worker (turn + 1))) e ∙ get_or-set_same turns entry.worker (turn + 1) 0 within in
              let before = ap (slice_index turns) e in
              omega (arith, here, before, was, counted w low, turns_of-more w true (ap (is_of_worker w) is ∙ eq-eqb entry.worker w (sym e))))
          | inr apart ↦
              get_or-set_other turns entry.worker w (turn + 1) 0 apart ∙ counted w low
              ∙ sym (
              omega (arith, turns_of-more w false (ap (is_of_worker w) is ∙ ne_eqb entry.worker w (λ e. apart (sym e)))))
        ]
