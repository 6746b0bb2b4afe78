-- The marks of a worker by its turns, one mark after another.
use Rattle.report_judge.proofs.Words.{◌≡◌, ℕ, ◌+◌, ◌<◌, List, length, set, Option, Some, None, arith, sym, ap, ◌∙◌, subst, inl, inr, slice_get, slice_index_or}
use Rattle.report_judge.proofs.Words.{cases_eq, cases_lt, get_or-set_at, get_or-set_other, slice_get_within, Record, IsTurnOf, IsMarkOfTurn, AreMarksByTurn}
use Rattle.report_judge.proofs.Words.{get_or_default}
use Rattle.std.specs.Prelude.{IfSome}

module _ (records : List Record) (worker : ℕ) where
  -- the mark of a turn among those below a number, or that none of them is of that turn
  abbrev pub IsMarkAmong : ℕ → ℕ → Option ℕ → Type 0
  IsMarkAmong turn limit None = (k : ℕ) (entry : Record) → k < limit → slice_get records k ≡ Some entry → ¬ IsTurnOf worker turn entry
  IsMarkAmong turn limit (Some mark) = (entry : Record) × (slice_get records mark ≡ Some entry) × IsTurnOf worker turn entry

  -- the same of a list by turns
  abbrev pub IsMarkBelow : ℕ → ℕ → List (Option ℕ) → Type 0
  IsMarkBelow turn limit order = IsMarkAmong turn limit (slice_index_or order turn None)

  module _ (limit : ℕ) (own : Record) (at : slice_get records limit ≡ Some own) where
    -- a mark that is not of the turn leaves what was found
    among_more : (turn : ℕ) → ¬ IsTurnOf worker turn own → (o : Option ℕ) → IsMarkAmong turn limit o → IsMarkAmong turn (limit + 1) o
    among_more turn other (Some mark) h = h
    among_more turn other None h = λ k entry less is of_turn.
        elim (cases_lt k limit) [
          | inl before ↦ h k entry before is of_turn
          | inr past ↦ (
              let e : k ≡ limit = omega (arith, less, past) in
              let both : Some entry ≡ Some own = sym is ∙ ap (slice_get records) e ∙ at in
              let same : entry ≡ own = cc in
              other (subst (IsTurnOf worker turn) same of_turn))
        ]

    pub IsMarkBelow-other : (order : List (Option ℕ)) (turn : ℕ) → ¬ IsTurnOf worker turn own → IsMarkBelow turn limit order
        → IsMarkBelow turn (limit + 1) order
    IsMarkBelow-other order turn other h = among_more turn other (slice_index_or order turn None) h

    -- and one that is stands at its turn
    pub IsMarkBelow-set : (order : List (Option ℕ)) → own.worker ≡ worker → own.turn < length order
        → ((turn : ℕ) → turn < length order → IsMarkBelow turn limit order) → (turn : ℕ) → turn < length order
        → IsMarkBelow turn (limit + 1) (set order own.turn (Some limit))
    IsMarkBelow-set order mine within h turn low =
        elim (cases_eq turn own.turn) [
          | inl e ↦
              subst (IsMarkAmong turn (limit + 1)) (sym (get_or-set_at order own.turn turn (Some limit) None e within))
              (own, at, record { worker = mine; turn = sym e })
          | inr apart ↦
              subst (IsMarkAmong turn (limit + 1)) (sym (get_or-set_other order own.turn turn (Some limit) None apart))
              (IsMarkBelow-other order turn (λ of_turn. apart (sym of_turn.turn)) (h turn low))
        ]

  -- among all marks
  all_marks : (turn : ℕ) (o : Option ℕ) → IsMarkAmong turn (length records) o → IsMarkOfTurn records worker turn o
  all_marks turn (Some mark) h = h
  all_marks turn None h = λ k entry is of_turn. h k entry (slice_get_within records k entry is) is of_turn

  pub IsMarkOfTurn-all : (limit turn : ℕ) (order : List (Option ℕ)) → length records ≡ limit → IsMarkBelow turn limit order
      → IsMarkOfTurn records worker turn (slice_index_or order turn None)
  IsMarkOfTurn-all limit turn order all h =
      all_marks turn (slice_index_or order turn None) (subst (λ n. IsMarkBelow turn n order) (sym all) h)

-- a mark that was handled in a turn has a record
pub low_mark : (records : List Record) (worker turn : ℕ) (o : Option ℕ) → IsMarkOfTurn records worker turn o → IfSome o (λ m. m < length records)
low_mark records worker turn None told = tt
low_mark records worker turn (Some mark) told = slice_get_within records mark told.0 told.1

-- what is read of the marks by turn is the mark of the turn
pub mark_read : (records : List Record) (worker : ℕ) (order : List (Option ℕ)) (turn : ℕ) (o : Option ℕ) → turn < length order
    → AreMarksByTurn records worker order → o ≡ slice_index_or order turn o → IsMarkOfTurn records worker turn o
mark_read records worker order turn o low by_turn is =
    subst (IsMarkOfTurn records worker turn) (get_or_default order turn None o low ∙ sym is) (by_turn turn low)
