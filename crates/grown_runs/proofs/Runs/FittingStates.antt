-- The fields of a closed run fit their words: its numbers, costs and classes, the points of its nodes, and its records.
use Rattle.grown_runs.proofs.Words.{◌≡◌, ℕ, zero, suc, ◌*◌, ◌<◌, ◌≤◌, ◌^◌, true, eqb, Some, length, arith, refl, sym, ◌∙◌, subst, inl, inr, ◌&&◌}
use Rattle.grown_runs.proofs.Words.{range_with_len, cases_lt, and_parts, eqb-true, length-range_with_len, count_by-le-length, Outcome, Placed, Same}
use Rattle.grown_runs.proofs.Words.{Skipped, Record, Task, IsBounded, ClearAt, IsClosed, has_outcome, mark_at, is_placed, space_of, most_cost_of}
use Rattle.grown_runs.proofs.Words.{is_zero_unless_placed, IsPresent, point_at, point_of, node_count, class_of, HasLawfulEnding, ending_as, setup_of}
use Rattle.grown_runs.proofs.Words.{skipping_goals, TreeState, IsPresent-goal, class_from_powers, node_count-closed, IsInRoom-from_clear_at, length-marks}
use Rattle.grown_runs.proofs.Words.{IsPresent-stands, point_of-stands, most_cost_of-within, class_of-le, IsBounded-in_room, step-steers, Clear-last}
use Rattle.grown_runs.proofs.Words.{turn-below_limit, last_field, FitsRecord, record-of_present}

zero_unless_placed :
    (o : Outcome) (parent cost class : ℕ) → (o ≡ Placed → ⊥) → is_zero_unless_placed o parent cost class ≡ true → (parent ≡ 0) × (cost ≡ 0)
zero_unless_placed Placed parent cost class apart h = absurd (apart refl)
zero_unless_placed outcome parent cost class apart h =
    let parts = and_parts (eqb parent 0) (eqb cost 0 && eqb class 0) h in
    (eqb-true parent 0 parts.0, eqb-true cost 0 (and_parts (eqb cost 0) (eqb class 0) parts.1).0)

module _
    (task : Task) (limit : ℕ) (state : TreeState)
    (closed : IsClosed (setup_of task.scene) task.marks limit state) where
  -- ---- numbers

  -- a mark with a record is below the limit
  pub recorded-below : (k : ℕ) (entry : Record) → state.record_of k ≡ Some entry → k < limit
  recorded-below k entry is =
      elim (cases_lt k limit) [
        | inl below ↦ below
        | inr past ↦ (let gone = sym is ∙ closed.records.none_else k past in cc)
      ]

  -- a present node has a number up to that of the last mark
  pub present-closed : (n : ℕ) → IsPresent state.points n → n ≤ length task.marks
  present-closed zero h = omega arith
  present-closed (suc k) h =
      let own = record-of_present state closed.placed k h in
      omega (arith, recorded-below k own.0 own.1, closed.within)

  pub small_number : (n : ℕ) → IsPresent state.points n → n < 2 ^ 18
  small_number n h = omega (arith, present-closed n h, length-marks task)

  -- ---- costs and classes

  few_nodes : node_count state.points ≤ 262144
  few_nodes =
      let count = node_count-closed (setup_of task.scene) task.marks limit state closed in
      omega (
        arith,
        count,
        count_by-le-length (λ k. has_outcome is_placed (state.record_of k)) (range_with_len 0 limit),
        length-range_with_len 0 limit,
        closed.within,
        length-marks task,
      )

  low_cost : (cost : ℕ) → cost ≤ most_cost_of (setup_of task.scene) (node_count state.points) → cost < 2 ^ 44
  low_cost cost h =
      omega (arith, h, most_cost_of-within (setup_of task.scene) (node_count state.points) (step-steers task.scene) few_nodes)

  -- the kept cost of a present node
  pub kept-low : (n : ℕ) → IsPresent state.points n → state.cost n < 2 ^ 44
  kept-low n h = low_cost (state.cost n) (closed.order.bounded n h)

  -- by a variable, since the class of a numeral computes long
  class_below : (most class : ℕ) → 2 ^ 18 ≤ most → most < 2 * 2 ^ 18 → node_count state.points ≤ most → class ≤ class_of (node_count state.points)
      → class < 2 ^ 18
  class_below most class low below within h = omega (arith, h, class_of-le (node_count state.points) most within, class_from_powers most 18 low below)

  low_class : (class : ℕ) → class ≤ class_of (node_count state.points) → class < 2 ^ 18
  low_class class h = class_below 262144 class (omega arith) (omega arith) few_nodes h

  -- ---- points

  clear_at : (n : ℕ) → IsPresent state.points n → ClearAt (space_of task.scene) (point_of state.points n)
  clear_at zero h =
      subst (ClearAt (space_of task.scene)) (sym (point_of-stands state.points 0 task.scene.start closed.order.start_stands))
      closed.order.start_clear
  clear_at (suc k) h =
      Clear-last (space_of task.scene) (point_of state.points (state.parent (suc k))) (point_of state.points (suc k))
      (closed.order.hangs k h).edge.clear

  -- the point of a present node
  pub IsBounded-closed : (n : ℕ) → IsPresent state.points n → IsBounded (point_of state.points n)
  IsBounded-closed n h =
      IsBounded-in_room task.scene (point_of state.points n) (IsInRoom-from_clear_at (space_of task.scene) (point_of state.points n) (clear_at n h))

  -- ---- records

  -- Each record fits its words.
  pub FitsRecord-closed : (k : ℕ) (entry : Record) → state.record_of k ≡ Some entry → FitsRecord entry
  FitsRecord-closed k entry is = record {
    word = record {
      worker = closed.workers k entry is;
      turn = omega (arith, turn-below_limit state.record_of limit closed.turns k entry (recorded-below k entry is) is, closed.within, length-marks task);
      nearest = nearest entry.outcome (closed.lawful k entry is);
      last = last entry.outcome (closed.lawful k entry is);
    };
    parent = (first entry.outcome refl (closed.lawful k entry is)).0;
    cost = (first entry.outcome refl (closed.lawful k entry is)).1;
  }
    where
      nearest : (o : Outcome) → HasLawfulEnding (setup_of task.scene) state k (mark_at task.marks k) entry (ending_as entry o) → entry.nearest < 2 ^ 18
      nearest Skipped h = small_number entry.nearest (IsPresent-goal (skipping_goals task.scene) (point_at state.points entry.nearest) h.goal)
      nearest outcome h = small_number entry.nearest h.present

      last : (o : Outcome) → HasLawfulEnding (setup_of task.scene) state k (mark_at task.marks k) entry (ending_as entry o) → last_field o entry.class < 2 ^ 18
      last Placed h = low_class entry.class h.outcome.by_worker.of_class.high
      last (Same j) h = small_number j (IsPresent-stands state.points j _ h.outcome)
      last outcome h = omega arith

      zeros : (entry.outcome ≡ Placed → ⊥) → (entry.first_parent < 2 ^ 18) × (entry.first_cost < 2 ^ 44)
      zeros apart =
          let none = zero_unless_placed entry.outcome entry.first_parent entry.first_cost entry.class apart entry.unplaced in
          (omega (arith, none.0), omega (arith, none.1))

      first : (o : Outcome) → entry.outcome ≡ o → HasLawfulEnding (setup_of task.scene) state k (mark_at task.marks k) entry (ending_as entry o)
          → (entry.first_parent < 2 ^ 18) × (entry.first_cost < 2 ^ 44)
      first Placed e h = (small_number entry.first_parent h.outcome.by_tree.hangs.present, low_cost entry.first_cost h.outcome.by_tree.bounded)
      first outcome e h = zeros (λ placed. let gone = sym placed ∙ e in cc)
