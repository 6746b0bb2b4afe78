use Rattle.shared_tree_tests.proofs.Words.{◌≡◌, ℕ, zero, suc, ◌+◌, ◌≤◌, ◌^◌, true, false, None, length, arith, refl, sym, ap, ◌∙◌, IsTrue, cost_of, mark_at}
use Rattle.shared_tree_tests.proofs.Words.{is_earlier_record, unplaced_record, empty_room, IsNotAbove, distance_to, point_of, placed_by, at, Blocked}
use Rattle.shared_tree_tests.proofs.Words.{Record, AreInRoom-from_clear, same_x, record_at}
use Rattle.shared_tree_tests.proofs.Words.{TreeOf, cost_in, record_at-past, IsOwnNeighbour, is_own_node, own_first_cost, new_hand, SeesPoint, run_sizes, sees}
use Rattle.shared_tree_tests.proofs.Words.{tree_seen, Hand, Counted, View, claimer_at_start, claimer_in, counter_of, hand_at}
use Rattle.grown_runs.proofs.Common.{Same}
use Rattle.shared_tree_tests.proofs.SmallRuns.MarkEdge.{clear, edge}
use Rattle.grown_runs.specs.Table.WordPlaces.{word_at}
use Rattle.shared_tree_tests.proofs.worlds.vectors.allowed_records.Goals as goal

-- no mark has a record, so the only own node is the start
module _ (view : View) (one : length view.run.marks ≡ 1) (none : record_at (sees view) 0 ≡ None) (entry : Record) where
  other : (k : ℕ) → ¬ IsTrue (is_own_node view entry (suc k))
  other zero h = let gone = sym h ∙ ap (is_earlier_record entry) none in cc
  other (suc k) h = let gone = sym h ∙ ap (is_earlier_record entry) (record_at-past (run_sizes view.run) view.seen (suc k) (omega (arith, one))) in cc

  nearest : (hand : Hand) (i : ℕ) → IsTrue (is_own_node view entry i)
      → IsNotAbove (distance_to (mark_at view.run.marks hand.mark) (tree_seen view).points) 0 i
  nearest hand zero own = record { least = omega arith; first = λ e. omega arith }
  nearest hand (suc k) own = absurd (other k own)

abbrev counted_by : ℕ → ℕ → Record
counted_by cost class = placed_by 0 0 0 0 cost class

module _ (cost count class : ℕ) where
  only_start : (k : ℕ) → ¬ IsOwnNeighbour (counter_of cost count) (counted_by cost class) class (at 8 9) (suc k)
  unfolding word_at
  only_start k near = other (counter_of cost count) refl refl (counted_by cost class) k near.own

  chosen : cost ≤ 1280 → (i : ℕ) → IsOwnNeighbour (counter_of cost count) (counted_by cost class) class (at 8 9) i
      → cost ≤ own_first_cost (counter_of cost count) i + cost_of (point_of (tree_seen (counter_of cost count)).points i) (at 8 9)
  unfolding word_at
  chosen low zero near = omega (arith, low, edge)
  chosen low (suc k) near = absurd (only_start k near)

  rewired : (i : ℕ) → IsOwnNeighbour (counter_of cost count) (counted_by cost class) class (at 8 9) i
      → (2 ^ 63 ≤ sees (counter_of cost count) (TreeOf i))
      × (cost_in (sees (counter_of cost count) (TreeOf i)) ≤ cost + cost_of (point_of (tree_seen (counter_of cost count)).points i) (at 8 9))
  unfolding word_at
  rewired zero near = (omega arith, omega arith)
  rewired (suc k) near = absurd (only_start k near)

past_the_radius : (i : ℕ) → IsOwnNeighbour (counter_of 2000 2048) (counted_by 2000 12) 12 (at 8 9) i
    → 2000 ≤ own_first_cost (counter_of 2000 2048) i + cost_of (point_of (tree_seen (counter_of 2000 2048)).points i) (at 8 9)
unfolding word_at
past_the_radius zero near = (let e : false ≡ true = near.near in cc)
past_the_radius (suc k) near = absurd (only_start 2000 2048 12 k near)

free : (i : ℕ) → IsTrue (is_own_node (claimer_in 8) (unplaced_record 0 0 0 Blocked) i) → ¬ SeesPoint (claimer_in 8) i (at 8 9)
unfolding word_at
free zero own stands = (let e : 5 ≡ 8 = same_x (at 5 5) (at 8 9) stands in omega (arith, e))
free (suc k) own stands = other (claimer_in 8) refl refl (unplaced_record 0 0 0 Blocked) k own

pub returns : goal.returns
unfolding word_at
returns c = record {
  placed = record {
    present = refl;
    nearest = nearest (counter_of 1280 1) refl refl (counted_by 1280 1) (hand_at Counted 0 1280);
    outcome = record {
      nearest_is = refl;
      parent_is = refl;
      cost_is = refl;
      clear = clear;
      posted = (λ goal. cc, λ posted. cc);
      low = omega arith;
      high = omega arith;
      chosen = chosen 1280 1 1 (omega arith);
      rewired = rewired 1280 1 1;
    };
  };
  blocked = record {
    present = refl;
    nearest = nearest (claimer_in 8) refl refl (unplaced_record 0 0 0 Blocked) (new_hand 0);
    outcome = (
      λ informed. absurd (informed refl),
      record {
        blocked = λ h. omega (arith, (AreInRoom-from_clear (empty_room (at 100 8)) (at 5 5) (at 8 9) h).last.vertical);
        free = free;
      },
    );
  };
  same = record {
    present = refl;
    nearest = nearest claimer_at_start refl refl (unplaced_record 0 0 0 (Same 0)) (new_hand 0);
    outcome = (λ informed. absurd (informed refl), refl);
  };
  dearer_past_the_radius = record {
    present = refl;
    nearest = nearest (counter_of 2000 2048) refl refl (counted_by 2000 12) (hand_at Counted 0 2000);
    outcome = record {
      nearest_is = refl;
      parent_is = refl;
      cost_is = refl;
      clear = clear;
      posted = (λ goal. cc, λ posted. cc);
      low = omega arith;
      high = omega arith;
      chosen = past_the_radius;
      rewired = rewired 2000 2048 12;
    };
  };
}
