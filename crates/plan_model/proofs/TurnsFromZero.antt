-- Turns that run from 0, with no gap and none twice, are exactly those of which each is counted once.
use Rattle.plan_model.proofs.Words.{◌≡◌, ℕ, zero, suc, ◌<◌, ◌≤◌, Bool, true, false, eqb, ltb, Option, Some, None, arith, refl, sym, ap, ◌∙◌, subst, inl, inr}
use Rattle.plan_model.proofs.Words.{◌≢◌, ◌&&◌, count_by, range_with_len, cases_eq, cases_lt, cases_Bool, and_parts, and_from, and_left, and_right, eqb-true}
use Rattle.plan_model.proofs.Words.{ne_eqb, ltb-true, lt-ltb, le-ltb, true≢false, Record, is_of_worker, turns_of, is_of_turn, times_of, once_if, AreTurns}
use Rattle.plan_model.proofs.Words.{RunFromZero}
use Rattle.std.proofs.lemmas.Bool.{eq-eqb}
use Rattle.plan_model.proofs.CountsBelow.{count-longer, count-wider, count-one_more, count-less, count-none, count-single}
use Rattle.plan_model.proofs.WorkerTurns.{HasTurn, is_of_turn-own, turn_of_record, ltb-next, once_if-below, once_if-past}
use Rattle.plan_model.proofs.WorkerTurns.{turn-below, HasTurn-below, times-once}

-- a record of this worker with a turn below a number
abbrev is_turn_below : ℕ → ℕ → Option Record → Bool
is_turn_below worker t None = false
is_turn_below worker t (Some entry) = eqb entry.worker worker && ltb entry.turn t

none_below_zero : (worker : ℕ) (o : Option Record) → ¬ (is_turn_below worker 0 o ≡ true)
none_below_zero worker None h = cc
none_below_zero worker (Some entry) h =
    let parts = and_parts (eqb entry.worker worker) (ltb entry.turn 0) h in
    omega (arith, ltb-true entry.turn 0 parts.1)

turn_of_worker : (worker t : ℕ) (o : Option Record) → is_turn_below worker t o ≡ true → is_of_worker worker o ≡ true
turn_of_worker worker t None h = cc
turn_of_worker worker t (Some entry) h = (and_parts (eqb entry.worker worker) (ltb entry.turn t) h).0

module _ (record_of : ℕ → Option Record) (run : RunFromZero record_of) where
  -- all turns before a worker's turn are there
  HasTurn-before : (t k : ℕ) (entry : Record) → record_of k ≡ Some entry → entry.turn ≡ t → (s : ℕ) → s ≤ t → HasTurn record_of entry.worker s
  HasTurn-before zero k entry is turn s below =
      record { mark = k; entry = entry; recorded = is; own = refl; turn = omega (arith, turn, below) }
  HasTurn-before (suc t) k entry is turn s below =
      elim (cases_eq s (suc t)) [
        | inl e ↦ record { mark = k; entry = entry; recorded = is; own = refl; turn = turn ∙ sym e }
        | inr apart ↦ (
            let earlier = run.no_gap k t entry is turn in
            let found = HasTurn-before t earlier.0 earlier.1 earlier.2 earlier.4 s (omega (arith, below, apart)) in
            record { mark = found.mark; entry = found.entry; recorded = found.recorded; own = found.own ∙ earlier.3; turn = found.turn })
      ]

  module _ (limit : ℕ) (within : (k : ℕ) (entry : Record) → record_of k ≡ Some entry → k < limit) (worker : ℕ) where
    abbrev test : ℕ → ℕ → Bool
    test t j = is_turn_below worker t (record_of j)

    -- a bound of one more passes the record with that turn, and no other
    same_test : (t i : ℕ) (o : Option Record) (found : HasTurn record_of worker t) → record_of i ≡ o → i ≢ found.mark
        → is_turn_below worker (suc t) o ≡ is_turn_below worker t o
    same_test t i None found e apart = refl
    same_test t i (Some entry) found e apart =
        elim (cases_eq entry.worker worker) [
          | inl own ↦ (
              let other : entry.turn ≢ t =
              λ same. apart (run.once i found.mark entry found.entry e found.recorded (own ∙ sym found.own) (same ∙ sym found.turn)) in
              ap (λ b. eqb entry.worker worker && b) (ltb-next entry.turn t other))
          | inr other ↦ (
              let no = ne_eqb entry.worker worker other in
              and_left (eqb entry.worker worker) (ltb entry.turn (suc t)) no ∙ sym (and_left (eqb entry.worker worker) (ltb entry.turn t) no))
        ]

    -- if all turns below a number are there, they are as many
    counted : (t : ℕ) → ((s : ℕ) → s < t → HasTurn record_of worker s) → count_by (test t) (range_with_len 0 limit) ≡ t
    counted zero all = count-longer (test 0) 0 limit (omega arith) (λ i h. absurd (none_below_zero worker (record_of i) h))
    counted (suc t) all =
        let before = counted t (λ s low. all s (omega (arith, low))) in
        let found = all t (omega arith) in
        let fails =
        ap (is_turn_below worker t) found.recorded
        ∙ and_right (eqb found.entry.worker worker) (ltb found.entry.turn t) (le-ltb found.entry.turn t (omega (arith, found.turn))) in
        let passes =
        ap (is_turn_below worker (suc t)) found.recorded
        ∙ and_from (eqb found.entry.worker worker) (ltb found.entry.turn (suc t)) (eq-eqb found.entry.worker worker found.own)
        (lt-ltb found.entry.turn (suc t) (omega (arith, found.turn))) in
        let more =
        count-one_more (test t) (test (suc t)) limit found.mark (within found.mark found.entry found.recorded) fails passes
        (λ i apart. same_test t i (record_of i) found refl apart) in
        omega (arith, more, before)

    -- a worker's turn is below the number of its records
    turn_is_below : (k : ℕ) (entry : Record) → record_of k ≡ Some entry → entry.worker ≡ worker → entry.turn < turns_of record_of limit worker
    turn_is_below k entry is own =
        let all : (s : ℕ) → s < suc entry.turn → HasTurn record_of worker s =
        λ s low. subst (λ w. HasTurn record_of w s) own (HasTurn-before entry.turn k entry is refl s (omega (arith, low))) in
        let some =
        count-wider (test (suc entry.turn)) (λ j. is_of_worker worker (record_of j)) limit
        (λ i h. turn_of_worker worker (suc entry.turn) (record_of i) h) in
        omega (arith, counted (suc entry.turn) all, some)

    -- a record of the worker that has no turn below a number shows that this turn is there
    by_later : (t j : ℕ) (o : Option Record) → record_of j ≡ o → is_turn_below worker t o ≡ false → is_of_worker worker o ≡ true
        → HasTurn record_of worker t
    by_later t j None e fails passes = cc
    by_later t j (Some entry) e fails passes =
        elim (cases_lt entry.turn t) [
          | inl less ↦
              absurd
              (true≢false (sym (and_from (eqb entry.worker worker) (ltb entry.turn t) passes (lt-ltb entry.turn t less)) ∙ fails))
          | inr past ↦
              subst (λ w. HasTurn record_of w t) (eqb-true entry.worker worker passes) (HasTurn-before entry.turn j entry e refl t past)
        ]

    -- each number up to that of its records is a turn of the worker
    turns_up_to : (t : ℕ) → t ≤ turns_of record_of limit worker → (s : ℕ) → s < t → HasTurn record_of worker s
    turns_up_to zero most s low = absurd (omega (arith, low))
    turns_up_to (suc t) most s low =
        let before = turns_up_to t (omega (arith, most)) in
        elim (cases_lt s t) [
          | inl less ↦ before s less
          | inr last ↦ (
              let found = count-less (test t) (λ j. is_of_worker worker (record_of j)) limit (omega (arith, counted t before, most)) in
              let e : t ≡ s = omega (arith, low, last) in
              subst (HasTurn record_of worker) e (by_later t found.number (record_of found.number) refl found.fails found.passes))
        ]

    -- and each number below that is a turn of the worker
    turn_is_there : (t : ℕ) → t < turns_of record_of limit worker → HasTurn record_of worker t
    turn_is_there t below = turns_up_to (suc t) below t (omega arith)

    -- Each turn below that number is counted once, and no other.
    counted_once : (t : ℕ) → times_of record_of limit worker t ≡ once_if (ltb t (turns_of record_of limit worker))
    counted_once t =
        elim (cases_lt t (turns_of record_of limit worker)) [
          | inl below ↦ (
              let found = turn_is_there t below in
              let passes = ap (is_of_turn worker t) found.recorded ∙ is_of_turn-own worker t found.entry found.own found.turn in
              count-single (λ j. is_of_turn worker t (record_of j)) limit found.mark (within found.mark found.entry found.recorded) passes
              (alone t found) ∙ sym (once_if-below t (turns_of record_of limit worker) below))
          | inr past ↦ (
              count-none (λ j. is_of_turn worker t (record_of j)) limit (λ j low. none_past t past j (record_of j) refl)
              ∙ sym (once_if-past t (turns_of record_of limit worker) past))
        ]
      where
        alone : (t : ℕ) (found : HasTurn record_of worker t) (j : ℕ) → j ≢ found.mark → is_of_turn worker t (record_of j) ≡ false
        alone t found j apart =
            elim (cases_Bool (is_of_turn worker t (record_of j))) [
              | inl passes ↦ (
                  let own = turn_of_record worker t (record_of j) passes in
                  absurd (apart (run.once j found.mark own.entry found.entry own.is found.recorded (own.own ∙ sym found.own) (own.turn ∙ sym found.turn))))
              | inr fails ↦ fails
            ]

        none_past : (t : ℕ) → turns_of record_of limit worker ≤ t → (j : ℕ) (o : Option Record) → record_of j ≡ o → is_of_turn worker t o ≡ false
        none_past t past j o e =
            elim (cases_Bool (is_of_turn worker t o)) [
              | inl passes ↦ (
                  let own = turn_of_record worker t o passes in
                  let low = turn_is_below j own.entry (e ∙ own.is) own.own in
                  absurd (omega (arith, low, own.turn, past)))
              | inr fails ↦ fails
            ]

  -- Turns that run from 0 are each counted once.
  pub AreTurns-counted : (limit : ℕ) → ((k : ℕ) (entry : Record) → record_of k ≡ Some entry → k < limit) → AreTurns limit record_of
  AreTurns-counted limit within = record { each = λ worker turn. counted_once limit within worker turn }

-- ---- the other way

-- Turns that are each counted once run from 0.
pub RunFromZero-counts :
    (record_of : ℕ → Option Record) (limit : ℕ) → ((k : ℕ) (entry : Record) → record_of k ≡ Some entry → k < limit)
    → AreTurns limit record_of → RunFromZero record_of
RunFromZero-counts record_of limit within turns = record { once = once; no_gap = no_gap }
  where
    once : (j k : ℕ) (one other : Record) → record_of j ≡ Some one → record_of k ≡ Some other → one.worker ≡ other.worker → one.turn ≡ other.turn
        → j ≡ k
    once j k one other f g worker turn =
        times-once record_of limit turns one.worker one.turn j k one other (within j one f) (within k other g) f g refl refl (sym worker) (sym turn)

    no_gap : (k turn : ℕ) (entry : Record) → record_of k ≡ Some entry → entry.turn ≡ suc turn
        → (j : ℕ) × (before : Record) × (record_of j ≡ Some before) × (before.worker ≡ entry.worker) × (before.turn ≡ turn)
    no_gap k turn entry h e =
        let below = turn-below record_of limit turns k entry (within k entry h) h in
        let found = HasTurn-below record_of limit turns entry.worker turn (omega (arith, below, e)) in
        (found.mark, found.entry, found.recorded, found.own, found.turn)
