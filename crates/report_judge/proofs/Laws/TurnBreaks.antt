-- A mark has a turn of its own if its worker and turn are new, and its turn is below the number of its worker's marks.
use Rattle.report_judge.proofs.Words.{◌≡◌, ℕ, ◌+◌, ◌*◌, ◌<◌, List, length, get_or, Option, Some, arith, sym, ◌∙◌, slice_get, slice_index_or, slice_get-get_or}
use Rattle.report_judge.proofs.Words.{Blocked, Record, unplaced_record, HasFewTurns, HasLowTurn, IsFirstBreak, IsNewKey, KeepsTurn, turn_key}
use Rattle.report_judge.proofs.Words.{count_by-le-length, is_of_worker, length-range_with_len, range_with_len, turns_of, ◌≤◌}
use Rattle.report_judge.proofs.Laws.FirstBreakLaws.{IsFirstBreak-same}

-- a worker has handled at most as many marks as there are
pub turns_at_most : (records : List Record) (i w : ℕ) → turns_of (slice_get records) i w ≤ i
turns_at_most records i w =
    omega (arith, count_by-le-length (λ k. is_of_worker w (slice_get records k)) (range_with_len 0 i), length-range_with_len 0 i)

module _
    (records : List Record) (keys : List ℕ) (long : length keys ≡ length records)
    (told : (k : ℕ) (entry : Record) → slice_get records k ≡ Some entry → slice_index_or keys k 0 ≡ turn_key entry)
    (fit : (k : ℕ) (entry : Record) → slice_get records k ≡ Some entry → HasFewTurns entry) where
  abbrev entry_at : ℕ → Record
  entry_at k = get_or records k (unplaced_record 0 0 0 Blocked)

  there : (k : ℕ) → k < length records → slice_get records k ≡ Some (entry_at k)
  there k low = slice_get-get_or records k (unplaced_record 0 0 0 Blocked) low

  KeepsTurn-new : (k : ℕ) → k < length records → IsNewKey keys k × HasLowTurn records k → KeepsTurn records k
  KeepsTurn-new k low both = λ entry is. record {
    once = λ j other before g worker turn.
        let same : turn_key other ≡ turn_key entry = λ i. worker i * 262144 + turn i in
        both.0 j before (told j other g ∙ same ∙ sym (told k entry is));
    below = both.1 entry is;
  }

  new-KeepsTurn : (k : ℕ) → k < length records → KeepsTurn records k → IsNewKey keys k × HasLowTurn records k
  new-KeepsTurn k low kept = (
    λ j before e.
        let also : j < length records = omega (arith, before, low) in
        let one = fit j (entry_at j) (there j also) in
        let other = fit k (entry_at k) (there k low) in
        let same : turn_key (entry_at j) ≡ turn_key (entry_at k) = sym (told j (entry_at j) (there j also)) ∙ e ∙ told k (entry_at k) (there k low) in
        let worker : (entry_at j).worker ≡ (entry_at k).worker = omega (arith, same, one.turn, other.turn) in
        let turn : (entry_at j).turn ≡ (entry_at k).turn = omega (arith, same, one.turn, other.turn) in
        (kept (entry_at k) (there k low)).once j (entry_at j) before (there j also) worker turn,
    λ entry is. (kept entry is).below,
  )

  -- So the first mark without a turn of its own is the first that breaks one of the two.
  pub IsFirstBreak-turns : (first : Option ℕ) → IsFirstBreak (λ k. IsNewKey keys k × HasLowTurn records k) (length records) first
      → IsFirstBreak (KeepsTurn records) (length records) first
  IsFirstBreak-turns first h =
      IsFirstBreak-same (λ k. IsNewKey keys k × HasLowTurn records k) (KeepsTurn records) (length records) KeepsTurn-new new-KeepsTurn first h
