-- Turns below the number of a worker's records, none twice, leave no gap.
use Rattle.report_judge.proofs.Words.{◌≡◌, ℕ, zero, suc, ◌+◌, ◌-◌, ◌<◌, ◌≤◌, Bool, true, false, cond, eqb, ltb, Option, Some, None, arith, refl, sym, ap, ◌∙◌}
use Rattle.report_judge.proofs.Words.{inl, inr, ◌&&◌, count_by, range_with_len, cases_lt, cases_order, cases_Bool, and_right, le-ltb, Record, is_of_worker}
use Rattle.report_judge.proofs.Words.{turns_of, is_of_turn, times_of, AreTurns, count-more, count-same, count-none, count-single, count-found, turn_of_record}
use Rattle.report_judge.proofs.Words.{once_if-below, once_if-past, HasOwnTurn, nat_tests}

-- ---- counts

-- what two tests count that never both pass is what a test counts that passes if one of them does
count-parts :
    (whole one other : ℕ → Bool) (n : ℕ)
    → ((i : ℕ) → cond {A = ℕ} (whole i) 1 0 ≡ cond {A = ℕ} (one i) 1 0 + cond {A = ℕ} (other i) 1 0)
    → count_by whole (range_with_len 0 n) ≡ count_by one (range_with_len 0 n) + count_by other (range_with_len 0 n)
count-parts whole one other zero parts = refl
count-parts whole one other (suc n) parts =
    omega (arith, count-more whole n, count-more one n, count-more other n, parts n, count-parts whole one other n parts)

-- a test that passes for one number at most counts one at most
count-once :
    (test : ℕ → Bool) (n : ℕ) → ((i j : ℕ) → test i ≡ true → test j ≡ true → i ≡ j) → count_by test (range_with_len 0 n) ≤ 1
count-once test n once =
    elim (cases_lt 0 (count_by test (range_with_len 0 n))) [
      | inl some ↦ (
          let found = count-found test n some in
          omega (arith, count-single test n found.number found.below found.passes (alone found.number found.passes)))
      | inr none ↦ omega (arith, none)
    ]
  where
    alone : (j : ℕ) → test j ≡ true → (i : ℕ) → (i ≡ j → ⊥) → test i ≡ false
    alone j passes i apart =
        elim (cases_Bool (test i)) [
          | inl also ↦ absurd (apart (once i j also passes))
          | inr fails ↦ fails
        ]

-- ---- records

-- a record of this worker with a turn below a number
abbrev is_turn_below : ℕ → ℕ → Option Record → Bool
is_turn_below worker t None = false
is_turn_below worker t (Some entry) = eqb entry.worker worker && ltb entry.turn t

-- the number of a test
abbrev one_if : Bool → ℕ
one_if b = cond b 1 0

-- a turn below a number and one is below the number, or is the number
next_turn : (own worker turn t : ℕ)
    → one_if (eqb own worker && ltb turn (suc t)) ≡ one_if (eqb own worker && ltb turn t) + one_if (eqb own worker && eqb turn t)
next_turn own worker turn t = grind (arith, nat_tests)

turn_parts : (worker t : ℕ) (o : Option Record) → one_if (is_turn_below worker (suc t) o) ≡ one_if (is_turn_below worker t o) + one_if (is_of_turn worker t o)
turn_parts worker t None = refl
turn_parts worker t (Some entry) = next_turn entry.worker worker entry.turn t

none_below_zero : (worker : ℕ) (o : Option Record) → is_turn_below worker 0 o ≡ false
none_below_zero worker None = refl
none_below_zero worker (Some entry) = and_right (eqb entry.worker worker) (ltb entry.turn 0) (le-ltb entry.turn 0 (omega arith))

-- a test that passes wherever the first one does tells no more
own_alone : (own worker turn t : ℕ) → (own ≡ worker → turn < t) → (eqb own worker && ltb turn t) ≡ eqb own worker
own_alone own worker turn t low = grind (arith, nat_tests)

-- ---- turns

module _
    (limit : ℕ) (record_of : ℕ → Option Record)
    (own : (k : ℕ) (entry : Record) → record_of k ≡ Some entry → HasOwnTurn limit record_of k entry) where
  -- how many records of a worker have a turn below a number
  below : ℕ → ℕ → ℕ
  below worker t = count_by (λ j. is_turn_below worker t (record_of j)) (range_with_len 0 limit)

  below-zero : (worker : ℕ) → below worker 0 ≡ 0
  unfolding below
  below-zero worker = count-none (λ j. is_turn_below worker 0 (record_of j)) limit (λ j low. none_below_zero worker (record_of j))

  below-next : (worker t : ℕ) → below worker (suc t) ≡ below worker t + times_of record_of limit worker t
  unfolding below
  below-next worker t =
      count-parts (λ j. is_turn_below worker (suc t) (record_of j)) (λ j. is_turn_below worker t (record_of j)) (λ j. is_of_turn worker t (record_of j)) limit
      (λ j. turn_parts worker t (record_of j))

  -- no turn is there twice
  same_mark : (worker t i j : ℕ) → is_of_turn worker t (record_of i) ≡ true → is_of_turn worker t (record_of j) ≡ true → i ≡ j
  same_mark worker t i j one other =
      let first = turn_of_record worker t (record_of i) one in
      let second = turn_of_record worker t (record_of j) other in
      elim (cases_order i j) [
        | inl e ↦ e
        | inr (inl before) ↦ absurd (
            (own j second.entry second.is).once i first.entry before first.is (first.own ∙ sym second.own) (first.turn ∙ sym second.turn))
        | inr (inr past) ↦ absurd (
            (own i first.entry first.is).once j second.entry past second.is (second.own ∙ sym first.own) (second.turn ∙ sym first.turn))
      ]

  times_at_most : (worker t : ℕ) → times_of record_of limit worker t ≤ 1
  times_at_most worker t = count-once (λ k. is_of_turn worker t (record_of k)) limit (same_mark worker t)

  below_at_most : (worker t : ℕ) → below worker t ≤ t
  below_at_most worker zero = omega (arith, below-zero worker)
  below_at_most worker (suc t) = omega (arith, below-next worker t, times_at_most worker t, below_at_most worker t)

  -- from one number to a later one there are at most as many more
  more_at_most : (worker t more : ℕ) → below worker (more + t) ≤ more + below worker t
  more_at_most worker t zero =
      let same : 0 + t ≡ t = omega arith in
      omega (arith, ap (below worker) same)
  more_at_most worker t (suc more) =
      let next : suc more + t ≡ suc (more + t) = omega arith in
      omega (arith, ap (below worker) next, below-next worker (more + t), times_at_most worker (more + t), more_at_most worker t more)

  -- all turns of a worker are below the number of its records
  own_test : (worker j : ℕ) (o : Option Record) → record_of j ≡ o
      → is_turn_below worker (turns_of record_of limit worker) o ≡ is_of_worker worker o
  own_test worker j None e = refl
  own_test worker j (Some entry) e =
      own_alone entry.worker worker entry.turn (turns_of record_of limit worker)
      (λ mine. omega (arith, (own j entry e).below, ap (turns_of record_of limit) mine))

  below-all : (worker : ℕ) → below worker (turns_of record_of limit worker) ≡ turns_of record_of limit worker
  unfolding below
  below-all worker =
      count-same (λ j. is_turn_below worker (turns_of record_of limit worker) (record_of j)) (λ j. is_of_worker worker (record_of j)) limit
      (λ j low. own_test worker j (record_of j) refl)

  -- a turn below that number is there
  some_times : (worker t : ℕ) → t < turns_of record_of limit worker → 1 ≤ times_of record_of limit worker t
  some_times worker t l =
      let more : ℕ = turns_of record_of limit worker - suc t in
      let whole : more + suc t ≡ turns_of record_of limit worker = omega (arith, l) in
      omega (
        arith,
        ap (below worker) whole,
        below-all worker,
        more_at_most worker (suc t) more,
        below-next worker t,
        below_at_most worker t,
      )

  no_times : (worker t : ℕ) → turns_of record_of limit worker ≤ t → times_of record_of limit worker t ≡ 0
  no_times worker t past = count-none (λ k. is_of_turn worker t (record_of k)) limit (λ k low. fails k)
    where
      fails : (k : ℕ) → is_of_turn worker t (record_of k) ≡ false
      fails k =
          elim (cases_Bool (is_of_turn worker t (record_of k))) [
            | inl passes ↦ (
                let found = turn_of_record worker t (record_of k) passes in
                let low = (own k found.entry found.is).below in
                absurd (omega (arith, low, past, found.turn, ap (turns_of record_of limit) found.own)))
            | inr other ↦ other
          ]

  -- Each turn of a worker is counted once.
  pub AreTurns-own : AreTurns limit record_of
  AreTurns-own = record {
    each = λ worker t.
        elim (cases_lt t (turns_of record_of limit worker)) [
          | inl low ↦
              omega (
                arith,
                times_at_most worker t,
                some_times worker t low,
                once_if-below t (turns_of record_of limit worker) low,
              )
          | inr past ↦ omega (arith, no_times worker t past, once_if-past t (turns_of record_of limit worker) past)
        ];
  }
