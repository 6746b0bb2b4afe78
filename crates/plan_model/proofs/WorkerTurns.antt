-- The turns of a worker are exactly the numbers below the number of its records, so that number is its next turn.
use Rattle.plan_model.proofs.Words.{◌≡◌, ℕ, suc, ◌<◌, ◌≤◌, Bool, true, false, eqb, ltb, Option, Some, None, arith, refl, sym, ap, ◌∙◌, subst, inl, inr, ◌≢◌}
use Rattle.plan_model.proofs.Words.{count_by, range_with_len, cases_eq, cases_lt, and_parts, and_from, and_left, and_right, eqb-true, ne_eqb, lt-ltb, le-ltb}
use Rattle.plan_model.proofs.Words.{length-range_with_len, count_by-le-length, Record, is_of_worker, turns_of, is_of_turn, times_of, once_if, AreTurns}
use Rattle.std.proofs.lemmas.Bool.{eq-eqb}
use Rattle.plan_model.proofs.CountsBelow.{count-same, count-longer, count-one_more, count-some, count-found, count-unique}
use Rattle.plan_model.proofs.NextRecords.{RecordsMark}

-- ---- single records

-- there is a record of this worker with this turn
pub record HasTurn (record_of : ℕ → Option Record) (worker t : ℕ) : Type 0 where
  pub mark : ℕ
  pub entry : Record
  pub recorded : record_of mark ≡ Some entry
  pub own : entry.worker ≡ worker
  pub turn : entry.turn ≡ t

-- a record that is there, with its worker and its turn
pub record IsOfTurn (o : Option Record) (worker t : ℕ) : Type 0 where
  pub entry : Record
  pub is : o ≡ Some entry
  pub own : entry.worker ≡ worker
  pub turn : entry.turn ≡ t

pub is_of_turn-own : (worker t : ℕ) (entry : Record) → entry.worker ≡ worker → entry.turn ≡ t → is_of_turn worker t (Some entry) ≡ true
is_of_turn-own worker t entry own turn = and_from (eqb entry.worker worker) (eqb entry.turn t) (eq-eqb entry.worker worker own) (eq-eqb entry.turn t turn)

-- a record of another turn is not of this one
is_of_turn-other : (worker t : ℕ) (entry : Record) → entry.turn ≢ t → is_of_turn worker t (Some entry) ≡ false
is_of_turn-other worker t entry apart = and_right (eqb entry.worker worker) (eqb entry.turn t) (ne_eqb entry.turn t apart)

-- nor is one of another worker
is_of_turn-foreign : (worker t : ℕ) (entry : Record) → entry.worker ≢ worker → is_of_turn worker t (Some entry) ≡ false
is_of_turn-foreign worker t entry apart = and_left (eqb entry.worker worker) (eqb entry.turn t) (ne_eqb entry.worker worker apart)

pub turn_of_record : (worker t : ℕ) (o : Option Record) → is_of_turn worker t o ≡ true → IsOfTurn o worker t
turn_of_record worker t None h = cc
turn_of_record worker t (Some entry) h =
    let parts = and_parts (eqb entry.worker worker) (eqb entry.turn t) h in
    record { entry = entry; is = refl; own = eqb-true entry.worker worker parts.0; turn = eqb-true entry.turn t parts.1 }

-- a bound of one more makes no difference to another number
pub ltb-next : (a n : ℕ) → a ≢ n → ltb a (suc n) ≡ ltb a n
ltb-next a n apart =
    elim (cases_lt a n) [
      | inl less ↦ lt-ltb a (suc n) (omega (arith, less)) ∙ sym (lt-ltb a n less)
      | inr more ↦ le-ltb a (suc n) (omega (arith, more, apart)) ∙ sym (le-ltb a n more)
    ]

pub once_if-below : (t n : ℕ) → t < n → once_if (ltb t n) ≡ 1
once_if-below t n below = ap once_if (lt-ltb t n below)

pub once_if-past : (t n : ℕ) → n ≤ t → once_if (ltb t n) ≡ 0
once_if-past t n past = ap once_if (le-ltb t n past)

-- ---- turns that are each counted once

module _ (record_of : ℕ → Option Record) (limit : ℕ) (turns : AreTurns limit record_of) where
  -- a turn is counted at most once
  times_at_most : (worker t : ℕ) → times_of record_of limit worker t ≤ 1
  times_at_most worker t =
      elim (cases_lt t (turns_of record_of limit worker)) [
        | inl below ↦ omega (arith, turns.each worker t, once_if-below t (turns_of record_of limit worker) below)
        | inr past ↦ omega (arith, turns.each worker t, once_if-past t (turns_of record_of limit worker) past)
      ]

  -- so two marks with one worker and turn are one
  pub times-once :
      (worker t j k : ℕ) (one other : Record) → j < limit → k < limit → record_of j ≡ Some one → record_of k ≡ Some other
      → one.worker ≡ worker → one.turn ≡ t → other.worker ≡ worker → other.turn ≡ t → j ≡ k
  times-once worker t j k one other low also f g own turn too again =
      count-unique (λ i. is_of_turn worker t (record_of i)) limit j k low also
      (ap (is_of_turn worker t) f ∙ is_of_turn-own worker t one own turn)
      (ap (is_of_turn worker t) g ∙ is_of_turn-own worker t other too again) (times_at_most worker t)

  -- A worker's turn is below the number of its records.
  pub turn-below : (k : ℕ) (entry : Record) → k < limit → record_of k ≡ Some entry → entry.turn < turns_of record_of limit entry.worker
  turn-below k entry low is =
      let own : ℕ = entry.worker in
      let some =
      count-some (λ j. is_of_turn entry.worker entry.turn (record_of j)) limit k low
      (ap (is_of_turn entry.worker entry.turn) is ∙ is_of_turn-own entry.worker entry.turn entry refl refl) in
      elim (cases_lt entry.turn (turns_of record_of limit entry.worker)) [
        | inl below ↦ below
        | inr past ↦
            absurd (omega (arith, some, turns.each entry.worker entry.turn, once_if-past entry.turn (turns_of record_of limit entry.worker) past))
      ]

  -- so it is below the limit
  pub turn-below_limit : (k : ℕ) (entry : Record) → k < limit → record_of k ≡ Some entry → entry.turn < limit
  turn-below_limit k entry low is =
      omega (
        arith,
        turn-below k entry low is,
        count_by-le-length (λ j. is_of_worker entry.worker (record_of j)) (range_with_len 0 limit),
        length-range_with_len 0 limit,
      )

  -- Each number below that of its records is a turn of the worker.
  pub HasTurn-below : (worker t : ℕ) → t < turns_of record_of limit worker → HasTurn record_of worker t
  HasTurn-below worker t below =
      let found =
      count-found (λ j. is_of_turn worker t (record_of j)) limit
      (omega (arith, turns.each worker t, once_if-below t (turns_of record_of limit worker) below)) in
      let own = turn_of_record worker t (record_of found.number) found.passes in
      record { mark = found.number; entry = own.entry; recorded = own.is; own = own.own; turn = own.turn }

-- the same records have the same turns
pub AreTurns-same :
    (before after : ℕ → Option Record) (limit : ℕ) → ((k : ℕ) → k < limit → after k ≡ before k) → AreTurns limit before → AreTurns limit after
AreTurns-same before after limit same turns = record { each = each }
  where
    each : (worker t : ℕ) → times_of after limit worker t ≡ once_if (ltb t (turns_of after limit worker))
    each worker t =
        let times =
        count-same (λ j. is_of_turn worker t (after j)) (λ j. is_of_turn worker t (before j)) limit (λ j low. ap (is_of_turn worker t) (same j low)) in
        let own =
        count-same (λ j. is_of_worker worker (after j)) (λ j. is_of_worker worker (before j)) limit (λ j low. ap (is_of_worker worker) (same j low)) in
        times ∙ turns.each worker t ∙ sym (ap (λ n. once_if (ltb t n)) own)

-- ---- a higher limit

module _
    (record_of : ℕ → Option Record) (limit higher : ℕ) (order : limit ≤ higher)
    (within : (k : ℕ) (entry : Record) → record_of k ≡ Some entry → k < limit) where
  worker_within : (worker j : ℕ) (o : Option Record) → record_of j ≡ o → is_of_worker worker o ≡ true → j < limit
  worker_within worker j None e h = cc
  worker_within worker j (Some entry) e h = within j entry e

  turn_within : (worker t j : ℕ) → is_of_turn worker t (record_of j) ≡ true → j < limit
  turn_within worker t j h = let own = turn_of_record worker t (record_of j) h in within j own.entry own.is

  -- marks without a record add no turns
  pub turns_of-longer : (worker : ℕ) → turns_of record_of higher worker ≡ turns_of record_of limit worker
  turns_of-longer worker = count-longer (λ j. is_of_worker worker (record_of j)) limit higher order (λ j h. worker_within worker j (record_of j) refl h)

  -- and leave them as they are
  pub AreTurns-longer : AreTurns limit record_of → AreTurns higher record_of
  AreTurns-longer turns = record {
    each = λ worker t.
        count-longer (λ j. is_of_turn worker t (record_of j)) limit higher order (turn_within worker t)
        ∙ turns.each worker t ∙ sym (ap (λ n. once_if (ltb t n)) (turns_of-longer worker));
  }

-- ---- any mark is recorded

module _ (before after : ℕ → Option Record) (k : ℕ) (entry : Record) (change : RecordsMark before after k entry) (limit : ℕ) (below : k < limit) where
  -- The worker of a new record has one record more.
  pub turns_of-recorded : turns_of after limit entry.worker ≡ suc (turns_of before limit entry.worker)
  turns_of-recorded =
      count-one_more (λ j. is_of_worker entry.worker (before j)) (λ j. is_of_worker entry.worker (after j)) limit k below
      (ap (is_of_worker entry.worker) change.absent)
      (ap (is_of_worker entry.worker) change.recorded ∙ eq-eqb entry.worker entry.worker refl)
      (λ j apart. ap (is_of_worker entry.worker) (change.others j apart))

  -- a test that fails where there is no record, and at the new one, counts as many as before
  pub count_still :
      (test : Option Record → Bool) → test None ≡ false → test (Some entry) ≡ false
      → count_by (λ j. test (after j)) (range_with_len 0 limit) ≡ count_by (λ j. test (before j)) (range_with_len 0 limit)
  count_still test none fails =
      count-same (λ j. test (after j)) (λ j. test (before j)) limit
      (λ j low. elim (cases_eq j k) [
        | inl e ↦ ap test (ap after e ∙ change.recorded) ∙ fails ∙ sym (ap test (ap before e ∙ change.absent) ∙ none)
        | inr apart ↦ ap test (change.others j apart)
      ])

  -- and another worker has as many as before
  pub turns_of-recorded_by_other : (worker : ℕ) → entry.worker ≢ worker → turns_of after limit worker ≡ turns_of before limit worker
  turns_of-recorded_by_other worker apart = count_still (is_of_worker worker) refl (ne_eqb entry.worker worker apart)

  module _ (turns : AreTurns limit before) (turn : entry.turn ≡ turns_of before limit entry.worker) where
    -- its turn is counted once more, which is once
    times_new : times_of after limit entry.worker entry.turn ≡ 1
    times_new =
        let more =
        count-one_more (λ j. is_of_turn entry.worker entry.turn (before j)) (λ j. is_of_turn entry.worker entry.turn (after j)) limit k below
        (ap (is_of_turn entry.worker entry.turn) change.absent)
        (ap (is_of_turn entry.worker entry.turn) change.recorded ∙ is_of_turn-own entry.worker entry.turn entry refl refl)
        (λ j apart. ap (is_of_turn entry.worker entry.turn) (change.others j apart)) in
        let past = once_if-past entry.turn (turns_of before limit entry.worker) (omega (arith, turn)) in
        omega (arith, more, turns.each entry.worker entry.turn, past)

    -- each turn of its worker is counted once
    own_turns : (t : ℕ) → times_of after limit entry.worker t ≡ once_if (ltb t (turns_of after limit entry.worker))
    own_turns t =
        elim (cases_eq t entry.turn) [
          | inl e ↦ (
              let here : times_of after limit entry.worker t ≡ 1 = ap (times_of after limit entry.worker) e ∙ times_new in
              here ∙ sym (once_if-below t (turns_of after limit entry.worker) (omega (arith, e, turn, turns_of-recorded))))
          | inr apart ↦ (
              let still = count_still (is_of_turn entry.worker t) refl (is_of_turn-other entry.worker t entry (λ e. apart (sym e))) in
              let bound =
              ap (λ n. once_if (ltb t n)) turns_of-recorded
              ∙ ap once_if (ltb-next t (turns_of before limit entry.worker) (λ e. apart (e ∙ sym turn))) in
              still ∙ turns.each entry.worker t ∙ sym bound)
        ]

    -- A record whose turn is the number of its worker's records keeps that each turn is counted once, whichever mark it is of.
    pub AreTurns-recorded : AreTurns limit after
    AreTurns-recorded = record {
      each = λ worker t.
          elim (cases_eq entry.worker worker) [
            | inl e ↦ subst (λ w. times_of after limit w t ≡ once_if (ltb t (turns_of after limit w))) e (own_turns t)
            | inr apart ↦ (
                count_still (is_of_turn worker t) refl (is_of_turn-foreign worker t entry apart)
                ∙ turns.each worker t ∙ sym (ap (λ n. once_if (ltb t n)) (turns_of-recorded_by_other worker apart)))
          ];
    }

-- ---- the next mark is recorded

module _
    (before after : ℕ → Option Record) (k : ℕ) (entry : Record) (change : RecordsMark before after k entry)
    (within : (j : ℕ) (own : Record) → before j ≡ Some own → j < k) where
  -- the same at the next limit
  turns_of-no_more : (worker : ℕ) → turns_of before (suc k) worker ≡ turns_of before k worker
  turns_of-no_more = turns_of-longer before k (suc k) (omega arith) within

  pub AreTurns-next : AreTurns k before → entry.turn ≡ turns_of before k entry.worker → AreTurns (suc k) after
  AreTurns-next turns turn =
      AreTurns-recorded before after k entry change (suc k) (omega arith) (AreTurns-longer before k (suc k) (omega arith) within turns)
      (turn ∙ sym (turns_of-no_more entry.worker))
