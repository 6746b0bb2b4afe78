-- The first mark of any worker that breaks the law of records is the first of those of each worker.
use Rattle.report_judge.proofs.Words.{◌≡◌, ℕ, ◌≤◌, List, length, Option, Some, None, arith, ap, inl, inr, slice_get, cases_lt, Record, Task, Knot, turns_of}
use Rattle.report_judge.proofs.Words.{HasFewTurns, IsFirstBreak, earlier_of, HaveLowTurns, KeepsRecord, KeepsRecordOf, KeepsRecordBelow, KeepsRecordBetween}
use Rattle.report_judge.proofs.Words.{◌+◌}
use Rattle.report_judge.proofs.Laws.FirstBreakLaws.{IsFirstBreak-earlier, IsFirstBreak-same}

module _ (task : Task) (knots : List (Option Knot)) (records : List Record) where
  abbrev Below : ℕ → ℕ → Type 0
  Below workers = KeepsRecordBelow workers task knots records

  abbrev Of : ℕ → ℕ → Type 0
  Of worker = KeepsRecordOf worker task knots records

  pub IsFirstBreak-no_worker : IsFirstBreak (Below 0) (length records) None
  IsFirstBreak-no_worker = λ k low entry is less. absurd (omega (arith, less))

  -- one worker more
  pub IsFirstBreak-worker : (worker : ℕ) (first broken : Option ℕ) → IsFirstBreak (Below worker) (length records) first
      → IsFirstBreak (Of worker) (length records) broken → IsFirstBreak (Below (worker + 1)) (length records) (earlier_of first broken)
  IsFirstBreak-worker worker first broken h own =
      IsFirstBreak-same (λ k. Below worker k × Of worker k) (Below (worker + 1)) (length records)
      (λ k low both entry is less.
      elim (cases_lt entry.worker worker) [
        | inl before ↦ both.0 entry is before
        | inr past ↦ both.1 entry is (omega (arith, less, past))
      ])
      (λ k low kept. (λ entry is less. kept entry is (omega (arith, less)), λ entry is mine. kept entry is (omega (arith, mine))))
      (earlier_of first broken)
      (IsFirstBreak-earlier (Below worker) (Of worker) (length records) first broken h own)

  -- all workers
  pub IsFirstBreak-workers : ((k : ℕ) (entry : Record) → slice_get records k ≡ Some entry → HasFewTurns entry) → (first : Option ℕ)
      → IsFirstBreak (Below 64) (length records) first → IsFirstBreak (KeepsRecord task knots records) (length records) first
  IsFirstBreak-workers fit first h =
      IsFirstBreak-same (Below 64) (KeepsRecord task knots records) (length records) (λ k low kept entry is. kept entry is (fit k entry is).worker)
      (λ k low kept entry is less. kept entry is) first h

  -- ---- of one worker, stretch by stretch

  abbrev Between : ℕ → ℕ → ℕ → ℕ → Type 0
  Between worker from to = KeepsRecordBetween worker from to task knots records

  -- a stretch more
  pub IsFirstBreak-stretch : (worker from to : ℕ) (first broken : Option ℕ) → from ≤ to → IsFirstBreak (Between worker 0 from) (length records) first
      → IsFirstBreak (Between worker from to) (length records) broken → IsFirstBreak (Between worker 0 to) (length records) (earlier_of first broken)
  IsFirstBreak-stretch worker from to first broken onward h own =
      IsFirstBreak-same (λ k. Between worker 0 from k × Between worker from to k) (Between worker 0 to) (length records)
      (λ k low both entry is mine past before.
      elim (cases_lt entry.turn from) [
        | inl early ↦ both.0 entry is mine past early
        | inr late ↦ both.1 entry is mine late before
      ])
      (λ k low kept. (
        λ entry is mine past before. kept entry is mine past (omega (arith, before, onward)),
        λ entry is mine past before. kept entry is mine (omega arith) before,
      ))
      (earlier_of first broken)
      (IsFirstBreak-earlier (Between worker 0 from) (Between worker from to) (length records) first broken h own)

  -- all turns
  pub IsFirstBreak-turns : HaveLowTurns records → (worker turns : ℕ) → turns ≡ turns_of (slice_get records) (length records) worker
      → (first : Option ℕ) → IsFirstBreak (Between worker 0 turns) (length records) first → IsFirstBreak (Of worker) (length records) first
  IsFirstBreak-turns low_turns worker turns all first h =
      IsFirstBreak-same (Between worker 0 turns) (Of worker) (length records)
      (λ k low kept entry is mine.
      kept entry is mine (omega arith) (omega (arith, low_turns k entry is, all, ap (turns_of (slice_get records) (length records)) mine)))
      (λ k low kept entry is mine past before. kept entry is mine) first h
