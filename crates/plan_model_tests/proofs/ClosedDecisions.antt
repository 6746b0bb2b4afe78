-- Decisions of the closed law.
use Rattle.plan_model_tests.proofs.Words.{◌≡◌, ℕ, zero, suc, ◌<◌, ◌≤◌, Option, Some, None, List, length, refl, sym, ap, ◌∙◌, subst, arith, inl, inr, IsSome}
use Rattle.plan_model_tests.proofs.Words.{is_some, max, slice_get, cases_lt, le_refl, get_or_past, same_Some, slice_get-get_or, slice_get_past}
use Rattle.plan_model_tests.proofs.Words.{slice_get_within, AreTurns-counted, RunFromZero-counts, Point, MOST_WORKERS, Record, ArePlacedMarks, AreRecordedBelow}
use Rattle.plan_model_tests.proofs.Words.{IsClosed, has_outcome, mark_at, is_placed, IsLawfulRecord, Setup, skipped_record, AreTurns, RunFromZero, ClearAt}
use Rattle.plan_model_tests.proofs.Words.{point_at, TreeState, at, open_setup, true, false}
use Rattle.plan_model_tests.proofs.Decisions.{agree, are_equal, each_below, given, holds, implied, in_option, is_absent, is_at_most, is_true, like}
use Rattle.plan_model_tests.proofs.Decisions.{refuted, shown, some_below}
use Rattle.plan_model_tests.proofs.OrderDecisions.{Clears, is_clear, is_clear_at, keeps_order}
use Rattle.plan_model_tests.proofs.RecordDecisions.{is_lawful_record}

module _ (record_of : ℕ → Option Record) (records : List Record) (is : record_of ≡ slice_get records) where
  pub record-past : (k : ℕ) → length records ≤ k → record_of k ≡ None
  record-past k past = ap (λ f. f k) is ∙ slice_get_past records k past

  pub record-below : (k : ℕ) (entry : Record) → record_of k ≡ Some entry → k < length records
  record-below k entry e = slice_get_within records k entry (ap (λ f. f k) (sym is) ∙ e)

  -- what is said of each record
  abbrev pub of_records : (P : ℕ → Record → Type 0) → ((k : ℕ) (entry : Record) → Dec (P k entry))
      → Dec ((k : ℕ) (entry : Record) → record_of k ≡ Some entry → P k entry)
  of_records P test =
      like (λ f k entry e. f k (record-below k entry e) entry e) (λ g k _. g k)
      (each_below (λ k. (entry : Record) → record_of k ≡ Some entry → P k entry) (λ k. in_option (P k) (record_of k) (test k)) (length records))

  -- ---- turns

  abbrev pub IsTurnOf : ℕ → ℕ → ℕ → Type 0
  IsTurnOf worker turn j = (before : Record) × (record_of j ≡ Some before) × (before.worker ≡ worker) × (before.turn ≡ turn)

  pub none-of_turn : (worker turn : ℕ) → ¬ ((before : Record) × (None ≡ Some before) × (before.worker ≡ worker) × (before.turn ≡ turn))
  none-of_turn worker turn (before, e, own, is) = cc

  abbrev pub is_of_turn : (o : Option Record) (worker turn : ℕ) → Dec ((before : Record) × (o ≡ Some before) × (before.worker ≡ worker) × (before.turn ≡ turn))
  is_of_turn None worker turn = no (none-of_turn worker turn)
  is_of_turn (Some entry) worker turn =
      given (are_equal entry.worker worker) (λ h. ap (λ r. r.worker) (same_Some entry h.0 h.1) ∙ h.2) (λ a.
      given (are_equal entry.turn turn) (λ h. ap (λ r. r.turn) (same_Some entry h.0 h.1) ∙ h.3) (λ b.
      yes (entry, refl, a, b)))

  abbrev pub is_turn : (worker turn : ℕ) → Dec ((j : ℕ) × IsTurnOf worker turn j)
  is_turn worker turn =
      like (λ h. (h.0, h.2)) (λ h. (h.0, record-below h.0 h.1.0 h.1.1, h.1))
      (some_below (IsTurnOf worker turn) (λ j. is_of_turn (record_of j) worker turn) (length records))

  pub before-suc : (worker t : ℕ) → (j : ℕ) × IsTurnOf worker t j → (turn : ℕ) → suc t ≡ suc turn → (j : ℕ) × IsTurnOf worker turn j
  before-suc worker t h turn e = subst (λ s. (j : ℕ) × IsTurnOf worker s j) (let own : t ≡ turn = omega arith in own) h

  pub before-zero : (worker turn : ℕ) → 0 ≡ suc turn → (j : ℕ) × IsTurnOf worker turn j
  before-zero worker turn e = absurd (omega (arith, e))

  abbrev pub has_turn_before : (worker t : ℕ) → Dec ((turn : ℕ) → t ≡ suc turn → (j : ℕ) × IsTurnOf worker turn j)
  has_turn_before worker zero = yes (before-zero worker)
  has_turn_before worker (suc t) = like (before-suc worker t) (λ h. h t refl) (is_turn worker t)

  abbrev pub run_from_zero : Dec (RunFromZero record_of)
  run_from_zero =
      given
      (of_records (λ j one. (k : ℕ) (other : Record) → record_of k ≡ Some other → one.worker ≡ other.worker → one.turn ≡ other.turn → j ≡ k)
      (λ j one. of_records (λ k other. one.worker ≡ other.worker → one.turn ≡ other.turn → j ≡ k)
      (λ k other. implied (are_equal one.worker other.worker) (implied (are_equal one.turn other.turn) (are_equal j k)))))
      (λ h j one e k other. h.once j k one other e) (λ a.
      given
      (of_records (λ k entry. (turn : ℕ) → entry.turn ≡ suc turn → (j : ℕ) × IsTurnOf entry.worker turn j)
      (λ k entry. has_turn_before entry.worker entry.turn))
      (λ h k entry e turn t. let found = h.no_gap k turn entry e t in (found.0, (found.1, found.2, found.3, found.4))) (λ b.
      yes (record {
        once = λ j k one other e f. a j one e k other f;
        no_gap = λ k turn entry e t. let found = b k entry e turn t in (found.0, found.1.0, found.1.1, found.1.2, found.1.3);
      })))

  pub record-within : (limit : ℕ) → length records ≤ limit → (k : ℕ) (entry : Record) → record_of k ≡ Some entry → k < limit
  record-within limit most k entry e = omega (arith, most, record-below k entry e)

  abbrev pub are_turns : (limit : ℕ) → length records ≤ limit → Dec (AreTurns limit record_of)
  are_turns limit most =
      like (λ run. AreTurns-counted record_of run limit (record-within limit most))
      (RunFromZero-counts record_of limit (record-within limit most)) run_from_zero

  -- ---- records

  pub none-past : (limit : ℕ) → ((k : ℕ) → k < length records → limit ≤ k → record_of k ≡ None) → (k : ℕ) → limit ≤ k → record_of k ≡ None
  none-past limit h k past = elim (cases_lt k (length records)) [ inl below ↦ h k below past | inr above ↦ record-past k above ]

  abbrev pub are_recorded_below : (limit : ℕ) → Dec (AreRecordedBelow limit record_of)
  are_recorded_below limit =
      given (each_below (λ k. IsSome (record_of k)) (λ k. is_true (is_some (record_of k))) limit) (λ h. h.recorded) (λ a.
      given
      (each_below (λ k. limit ≤ k → record_of k ≡ None) (λ k. implied (is_at_most limit k) (is_absent (record_of k))) (length records))
      (λ h k _. h.none_else k) (λ b.
      yes (record { recorded = a; none_else = none-past limit b })))

  -- all are below the limit
  pub records-few : (limit : ℕ) → AreRecordedBelow limit record_of → length records ≤ limit
  records-few limit h =
      elim (cases_lt limit (length records)) [
        | inl more ↦ (
            let none = h.none_else limit (le_refl limit) in
            let some = slice_get-get_or records limit (skipped_record 0 0) more in
            let own = ap (λ f. f limit) is in cc)
        | inr few ↦ few
      ]

module _ (setup : Setup) (clears : Clears setup.space) (state : TreeState) (records : List Record) (is : state.record_of ≡ slice_get records) where
  pub placed-past :
      ((k : ℕ) → k < max (length records) (length state.points) → is_some (point_at state.points (suc k)) ≡ has_outcome is_placed (state.record_of k))
      → ArePlacedMarks state
  placed-past h k =
      elim (cases_lt k (max (length records) (length state.points))) [
        | inl below ↦ h k below
        | inr past ↦ (
            let point = get_or_past state.points (suc k) None (omega (arith, past)) in
            let none = record-past state.record_of records is k (omega (arith, past)) in
            ap is_some point ∙ sym (ap (has_outcome is_placed) none))
      ]

  abbrev pub are_placed_marks : Dec (ArePlacedMarks state)
  are_placed_marks =
      like placed-past (λ h k _. h k)
      (each_below (λ k. is_some (point_at state.points (suc k)) ≡ has_outcome is_placed (state.record_of k))
      (λ k. agree (is_some (point_at state.points (suc k))) (has_outcome is_placed (state.record_of k))) (max (length records) (length state.points)))

  abbrev pub is_closed : Dec (ClearAt setup.space setup.start) → (marks : List Point) (limit : ℕ) → Dec (IsClosed setup marks limit state)
  is_closed start_clear marks limit =
      given (keeps_order setup clears state start_clear) (λ h. h.order) (λ a.
      given (is_at_most limit (length marks)) (λ h. h.within) (λ b.
      given (are_recorded_below state.record_of records is limit) (λ h. h.records) (λ c.
      given (of_records state.record_of records is (λ k entry. entry.worker < MOST_WORKERS) (λ k entry. is_at_most (suc entry.worker) MOST_WORKERS))
      (λ h. h.workers) (λ d.
      given (are_turns state.record_of records is limit (records-few state.record_of records is limit c)) (λ h. h.turns) (λ e.
      given
      (of_records state.record_of records is (λ k entry. IsLawfulRecord setup state k (mark_at marks k) entry)
      (λ k entry. is_lawful_record setup clears state records is k (mark_at marks k) entry)) (λ h. h.lawful) (λ f.
      given are_placed_marks (λ h. h.placed) (λ g.
      yes (record { order = a; within = b; records = c; workers = d; turns = e; lawful = f; placed = g }))))))))

-- ---- in the room of the worked runs
module _ (state : TreeState) (records : List Record) (is : state.record_of ≡ slice_get records) (marks : List Point) (limit : ℕ) where
  abbrev pub closes : Dec (IsClosed open_setup marks limit state)
  closes = is_closed open_setup (is_clear (at 100 100)) state records is (is_clear_at (at 100 100) (at 0 0)) marks limit

  pub closed : holds closes ≡ true → IsClosed open_setup marks limit state
  closed = shown closes

  pub unclosed : holds closes ≡ false → ¬ IsClosed open_setup marks limit state
  unclosed = refuted closes
