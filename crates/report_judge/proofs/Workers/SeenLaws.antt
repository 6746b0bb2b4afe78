-- What stood before one turn more of a worker: a node more, if it placed the mark of that turn.
use Rattle.report_judge.proofs.Words.{◌≡◌, ℕ, zero, suc, ◌+◌, ◌<◌, ◌≤◌, Bool, true, false, eqb, ltb, List, length, Option, Some, None, arith, refl, sym, ap}
use Rattle.report_judge.proofs.Words.{◌∙◌, subst, inl, inr, ◌≢◌, ◌⊎◌, ◌&&◌, min, slice_get, range_with_len, cases_eq, cases_lt, true≢false, length-filter, Goal}
use Rattle.report_judge.proofs.Words.{Record, Knot, is_placed, is_earlier, is_earlier_record, earlier_count, IsGoalNode, TreeState, first_cost_of, recorded_or}
use Rattle.report_judge.proofs.Words.{count-one_more, count-same, state_of_lists, IsTurnOf, IsMarkOfTurn, HaveOwnTurns, places_before, is_before, count_before}
use Rattle.report_judge.proofs.Words.{IsLeastGoalCost, IsLeastIfAny, AreSeen, Seen, nat_tests}
use Rattle.std.specs.Prelude.{IfNone, IfSome}

-- ---- earlier nodes are those before a turn

before_record : (entry : Record) (o : Option Record) → is_earlier_record entry o ≡ places_before entry.worker entry.turn o
before_record entry None = refl
before_record entry (Some other) = refl

-- A node stood already, by a record, if it stood before the record's turn.
pub is_before-earlier : (state : TreeState) (entry : Record) (n : ℕ) → is_earlier state entry n ≡ is_before entry.worker entry.turn state.record_of n
is_before-earlier state entry zero = refl
is_before-earlier state entry (suc k) = before_record entry (state.record_of k)

pub count_before-earlier : (state : TreeState) (entry : Record) → earlier_count state entry ≡ count_before state entry.worker entry.turn
count_before-earlier state entry =
    length-filter (is_earlier state entry) (range_with_len 0 (length state.points))
    ∙ count-same (is_earlier state entry) (is_before entry.worker entry.turn state.record_of) (length state.points) (λ i low. is_before-earlier state entry i)

-- ---- one turn more

-- the tests of a record, by its turn
pub not_placed_yet : (placed : Bool) (own worker turn t : ℕ) → t ≤ turn → (placed && (eqb own worker && ltb turn t)) ≡ false
not_placed_yet placed own worker turn t late = grind (arith, nat_tests)

placed_now : (placed : Bool) (own worker turn t : ℕ) → placed ≡ true → own ≡ worker → turn ≡ t → (placed && (eqb own worker && ltb turn (suc t))) ≡ true
placed_now placed own worker turn t is mine now = grind (arith, nat_tests)

same_next : (placed : Bool) (own worker turn t : ℕ) → (placed ≡ true → own ≡ worker → turn ≢ t)
    → (placed && (eqb own worker && ltb turn (suc t))) ≡ (placed && (eqb own worker && ltb turn t))
same_next placed own worker turn t other = grind (arith, nat_tests)

-- a record that is not of a placed mark of this turn stands before the next one as it does before this
places_next : (worker turn : ℕ) (o : Option Record) → ((other : Record) → o ≡ Some other → IsTurnOf worker turn other → is_placed other.outcome ≡ false)
    → places_before worker (suc turn) o ≡ places_before worker turn o
places_next worker turn None h = refl
places_next worker turn (Some other) h =
    same_next (is_placed other.outcome) other.worker worker other.turn turn
    (λ placed mine now. true≢false (sym placed ∙ h other refl (record { worker = mine; turn = now })))

before_next : (record_of : ℕ → Option Record) (worker turn : ℕ)
    → ((k : ℕ) (other : Record) → record_of k ≡ Some other → IsTurnOf worker turn other → is_placed other.outcome ≡ false)
    → (n : ℕ) → is_before worker (suc turn) record_of n ≡ is_before worker turn record_of n
before_next record_of worker turn h zero = refl
before_next record_of worker turn h (suc k) = places_next worker turn (record_of k) (λ other is own. h k other is own)

-- the record of the mark of a turn is of it
pub turn_of : (records : List Record) (worker turn mark : ℕ) (entry : Record) → IsMarkOfTurn records worker turn (Some mark)
    → slice_get records mark ≡ Some entry → IsTurnOf worker turn entry
turn_of records worker turn mark entry told at =
    let both : Some told.0 ≡ Some entry = sym told.1 ∙ at in
    let same : told.0 ≡ entry = cc in
    subst (IsTurnOf worker turn) same told.2

-- ---- no node more

module _ (goals : List Goal) (knots : List (Option Knot)) (records : List Record) (worker turn : ℕ) where
  abbrev run : TreeState
  run = state_of_lists knots records

  abbrev Before : ℕ → ℕ → Bool
  Before t n = is_before worker t (slice_get records) n

  least_same : ((n : ℕ) → Before (suc turn) n ≡ Before turn n) → (least : Option ℕ) → IsLeastIfAny goals run worker turn least
      → IsLeastIfAny goals run worker (suc turn) least
  least_same same None h = λ i before. h i (sym (same i) ∙ before)
  least_same same (Some cost) h = record {
    node = h.node;
    before = same h.node ∙ h.before;
    goal = h.goal;
    reached = h.reached;
    least = λ i before goal. h.least i (sym (same i) ∙ before) goal;
  }

  seen_same : ((n : ℕ) → Before (suc turn) n ≡ Before turn n) → (seen : Seen) → AreSeen goals run worker turn seen → AreSeen goals run worker (suc turn) seen
  seen_same same seen h = record {
    counted = h.counted ∙ count-same (Before turn) (Before (suc turn)) (length run.points) (λ i low. sym (same i));
    least = least_same same seen.least h.least;
  }

  -- a turn without a mark leaves what was seen
  pub AreSeen-none : (seen : Seen) → IsMarkOfTurn records worker turn None → AreSeen goals run worker turn seen → AreSeen goals run worker (suc turn) seen
  AreSeen-none seen none h =
      seen_same (before_next (slice_get records) worker turn (λ k other is own. absurd (none k other is own))) seen h

  module _ (own_turns : HaveOwnTurns records) (mark : ℕ) (entry : Record) (at : slice_get records mark ≡ Some entry)
      (of_turn : IsTurnOf worker turn entry) where
    -- the only record of this turn is the mark's
    only : (k : ℕ) (other : Record) → slice_get records k ≡ Some other → IsTurnOf worker turn other → k ≡ mark
    only k other is own = own_turns k mark other entry is at (own.worker ∙ sym of_turn.worker) (own.turn ∙ sym of_turn.turn)

    same_entry : (k : ℕ) (other : Record) → slice_get records k ≡ Some other → k ≡ mark → other ≡ entry
    same_entry k other is e = let both : Some other ≡ Some entry = sym is ∙ ap (slice_get records) e ∙ at in cc

    -- and so does one whose mark was not placed
    pub AreSeen-unplaced : (seen : Seen) → is_placed entry.outcome ≡ false → AreSeen goals run worker turn seen → AreSeen goals run worker (suc turn) seen
    AreSeen-unplaced seen unplaced h =
        seen_same
        (before_next (slice_get records) worker turn
        (λ k other is own. ap (λ (r : Record). is_placed r.outcome) (same_entry k other is (only k other is own)) ∙ unplaced)) seen h

    -- ---- a node more

    module _ (placed : is_placed entry.outcome ≡ true) where
      others_same : (n : ℕ) → n ≢ suc mark → Before (suc turn) n ≡ Before turn n
      others_same zero apart = refl
      others_same (suc k) apart =
          places_next worker turn (slice_get records k) (λ other is own. absurd (apart (ap suc (only k other is own))))

      new_after : Before (suc turn) (suc mark) ≡ true
      new_after =
          ap (places_before worker (suc turn)) at
          ∙ placed_now (is_placed entry.outcome) entry.worker worker entry.turn turn placed of_turn.worker of_turn.turn

      not_before : Before turn (suc mark) ≡ false
      not_before =
          ap (places_before worker turn) at
          ∙ not_placed_yet (is_placed entry.outcome) entry.worker worker entry.turn turn (omega (arith, of_turn.turn))

      counted_more : (seen : Seen) → suc mark < length run.points → AreSeen goals run worker turn seen → seen.nodes + 1 ≡ count_before run worker (suc turn)
      counted_more seen low h =
          omega (arith, h.counted, count-one_more (Before turn) (Before (suc turn)) (length run.points) (suc mark) low not_before new_after others_same)

      -- before the next turn stood what stood before, and the new node
      by_number : (i : ℕ) → Before (suc turn) i ≡ true → (Before turn i ≡ true) ⊎ (i ≡ suc mark)
      by_number i before =
          elim (cases_eq i (suc mark)) [
            | inl e ↦ inr e
            | inr apart ↦ inl (sym (others_same i apart) ∙ before)
          ]

      still : (i : ℕ) → Before turn i ≡ true → Before (suc turn) i ≡ true
      still i before =
          elim (cases_eq i (suc mark)) [
            | inl e ↦ absurd (true≢false (sym before ∙ ap (Before turn) e ∙ not_before))
            | inr apart ↦ others_same i apart ∙ before
          ]

      first_cost-new : first_cost_of run (suc mark) ≡ entry.first_cost
      first_cost-new = ap (recorded_or 0) at

      -- a new node that lies in no goal
      least_kept : ¬ IsGoalNode goals run.points (suc mark) → (least : Option ℕ) → IsLeastIfAny goals run worker turn least
          → IsLeastIfAny goals run worker (suc turn) least
      least_kept outside None h = λ i before goal.
          elim (by_number i before) [
            | inl old ↦ h i old goal
            | inr e ↦ outside (subst (IsGoalNode goals run.points) e goal)
          ]
      least_kept outside (Some cost) h = record {
        node = h.node;
        before = still h.node h.before;
        goal = h.goal;
        reached = h.reached;
        least = λ i before goal.
            elim (by_number i before) [
              | inl old ↦ h.least i old goal
              | inr e ↦ absurd (outside (subst (IsGoalNode goals run.points) e goal))
            ];
      }

      -- and one that does
      least_new : (cost : ℕ) → cost ≡ entry.first_cost → IsGoalNode goals run.points (suc mark)
          → ((i : ℕ) → Before turn i ≡ true → IsGoalNode goals run.points i → cost ≤ first_cost_of run i) → IsLeastGoalCost goals run worker (suc turn) cost
      least_new cost own inside below = record {
        node = suc mark;
        before = new_after;
        goal = inside;
        reached = first_cost-new ∙ sym own;
        least = λ i before goal.
            elim (by_number i before) [
              | inl old ↦ below i old goal
              | inr e ↦ omega (arith, own, first_cost-new, ap (first_cost_of run) e)
            ];
      }

      least_lesser : (cost least : ℕ) → least ≡ min cost entry.first_cost → IsGoalNode goals run.points (suc mark)
          → IsLeastIfAny goals run worker turn (Some cost) → IsLeastIfAny goals run worker (suc turn) (Some least)
      least_lesser cost least is inside h =
          elim (cases_lt entry.first_cost cost) [
            | inl less ↦ least_new least (omega (arith, is, less)) inside (λ i before goal. omega (arith, is, less, h.least i before goal))
            | inr more ↦ record {
              node = h.node;
              before = still h.node h.before;
              goal = h.goal;
              reached = omega (arith, h.reached, is, more);
              least = λ i before goal.
                  elim (by_number i before) [
                    | inl old ↦ omega (arith, is, more, h.least i old goal)
                    | inr e ↦ omega (arith, is, more, first_cost-new, ap (first_cost_of run) e)
                  ];
            }
          ]

      pub least_by : (cost : Option ℕ) (least : ℕ) → IfNone cost (least ≡ entry.first_cost) → IfSome cost (λ one. least ≡ min one entry.first_cost)
          → IsGoalNode goals run.points (suc mark) → IsLeastIfAny goals run worker turn cost → IsLeastIfAny goals run worker (suc turn) (Some least)
      least_by None least alone both inside h = least_new least alone inside (λ i before goal. absurd (h i before goal))
      least_by (Some one) least alone both inside h = least_lesser one least both inside h

      pub AreSeen-outside : (seen after : Seen) → suc mark < length run.points → ¬ IsGoalNode goals run.points (suc mark)
          → after.nodes ≡ seen.nodes + 1 → after.least ≡ seen.least → AreSeen goals run worker turn seen → AreSeen goals run worker (suc turn) after
      AreSeen-outside seen after low outside nodes least h = record {
        counted = nodes ∙ counted_more seen low h;
        least = subst (IsLeastIfAny goals run worker (suc turn)) (sym least) (least_kept outside seen.least h.least);
      }

      pub AreSeen-inside : (seen after : Seen) → suc mark < length run.points → after.nodes ≡ seen.nodes + 1
          → IsLeastIfAny goals run worker (suc turn) after.least → AreSeen goals run worker turn seen → AreSeen goals run worker (suc turn) after
      AreSeen-inside seen after low nodes least h = record { counted = nodes ∙ counted_more seen low h; least = least }
