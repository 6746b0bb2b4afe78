-- The words that hold the lists of a closed run are those of a closed run, and have the same tree and records.
use Rattle.grown_runs.proofs.Words.{◌≡◌, ℕ, zero, suc, true, List, Option, Some, None, length, refl, sym, ap, ◌∙◌, subst, inl, inr, false, is_some, option_map}
use Rattle.grown_runs.proofs.Words.{slice_get, slice_index_or, cases_lt, cases_Bool, false_from_ne_true, get_or_past, slice_get-get_or, slice_get_cases}
use Rattle.grown_runs.proofs.Words.{get_or_from_slice_get, get_or-map, Placed, Record, Task, Knot, Twig, IsClosed, point_at, IsPresent, is_placed, setup_of}
use Rattle.grown_runs.proofs.Words.{points_of, parent_of, parent_or_zero, without_costs, AreSameRuns, FollowWays, is_placed-true, IsPresent-stands}
use Rattle.grown_runs.proofs.Words.{node_count-same, IsClosed-same_run, point_at-points_of, Words, TreeOf, FirstOf, Sizes, parent_in, cost_in, point_of_word}
use Rattle.grown_runs.proofs.Words.{record_of_word, record_at, has_placed, has_node, points_of_words, state_of_words, children_of_words, IsPointWord}
use Rattle.grown_runs.proofs.Words.{IsTreeWord, IsWritten, IsBlank, sizes_of, HoldRun, kept_cost_of, state_of_lists, IsKnot, FitWords, HoldLists}
use Rattle.grown_runs.proofs.Words.{record-of_present, present-of_record}
use Rattle.grown_runs.specs.Runs.PackedRuns.{HasKnot as HasNode}
use Rattle.grown_runs.proofs.Runs.GrownPoints.{none_some, record_at-unwritten, node_point-here, point_at-words, point_at-absent}
use Rattle.grown_runs.proofs.Table.PackedRecords.{record_of_word-packed}
use Rattle.grown_runs.proofs.Table.PackedWords.{parent_in-tree_word, cost_in-tree_word, point_of_word-packed, IsPointWord-packed}
use Rattle.grown_runs.proofs.Runs.LoweredWords.{IsTreeWord-packed}

-- ---- lists

-- a node without its kept cost
abbrev twig_of : Knot → Twig
twig_of k = record { point = k.point; parent = k.parent }

pub point_at-lists : (knots : List (Option Knot)) (n : ℕ)
    → point_at (points_of (without_costs knots)) n ≡ option_map (λ (knot : Knot). knot.point) (slice_index_or knots n None)
point_at-lists knots n =
    point_at-points_of (without_costs knots) n
    ∙ ap (option_map (λ (node : Twig). node.point)) (get_or-map (option_map twig_of) knots n None)
    ∙ by_knot (slice_index_or knots n None)
  where
    by_knot : (o : Option Knot)
        → option_map (λ (node : Twig). node.point) (option_map twig_of o) ≡ option_map (λ (knot : Knot). knot.point) o
    by_knot None = refl
    by_knot (Some knot) = refl

pub parent_of-lists :
    (knots : List (Option Knot)) (n : ℕ) (knot : Knot) → slice_index_or knots n None ≡ Some knot → parent_of (without_costs knots) n ≡ knot.parent
parent_of-lists knots n knot e =
    ap parent_or_zero
    (get_or-map (option_map twig_of) knots n None
    ∙ ap (option_map twig_of) e)

pub IsKnot-at : (knots : List (Option Knot)) (n : ℕ) (knot : Knot) → slice_index_or knots n None ≡ Some knot → IsKnot knots n knot
IsKnot-at knots n knot e =
    elim (cases_lt n (length knots)) [
      | inl below ↦ slice_get-get_or knots n None below ∙ ap Some e
      | inr past ↦ (let gone = sym e ∙ get_or_past knots n None past in cc)
    ]

-- a present node is in the list
record HasKnot (knots : List (Option Knot)) (n : ℕ) : Type 0 where
  knot : Knot
  at : slice_index_or knots n None ≡ Some knot

HasKnot-present : (knots : List (Option Knot)) (n : ℕ) → IsPresent (points_of (without_costs knots)) n → HasKnot knots n
HasKnot-present knots n h = by_knot (slice_index_or knots n None) refl
  where
    by_knot : (o : Option Knot) → slice_index_or knots n None ≡ o → HasKnot knots n
    by_knot None e = let gone = sym h ∙ ap is_some (point_at-lists knots n ∙ ap (option_map (λ (knot : Knot). knot.point)) e) in cc
    by_knot (Some knot) e = record { knot = knot; at = e }

-- a record of a placed mark
placed_in : (o : Option Record) → has_placed o ≡ true → (entry : Record) × (o ≡ Some entry) × (entry.outcome ≡ Placed)
placed_in None h = cc
placed_in (Some entry) h = (entry, refl, is_placed-true entry.outcome h)

module _
    (task : Task) (knots : List (Option Knot)) (records : List Record) (words : Words)
    (closed : IsClosed (setup_of task.scene) task.marks (length records) (state_of_lists knots records))
    (fit : FitWords (sizes_of task) knots records) (held : HoldLists (sizes_of task) knots records words) where
  abbrev sizes : Sizes
  sizes = sizes_of task

  -- ---- records

  record_at-packed : (k : ℕ) → record_at words k ≡ slice_get records k
  record_at-packed k =
      elim (slice_get_cases records k).1 [
        | inl some ↦ (
            let fits = fit.records_fit k some.0 some.2 in
            let holds = held.entries k some.0 some.2 in
            ap (λ word. record_of_word word (words (FirstOf (suc k)))) holds.own
            ∙ record_of_word-packed some.0 (words (FirstOf (suc k))) fits.word
            (record { word = holds.first; parent = fits.parent; cost = fits.cost })
            ∙ sym some.2)
        | inr none ↦ record_at-unwritten words k (held.none_else k none.0) ∙ sym none.1
      ]

  -- ---- nodes

  has_node-packed : (n : ℕ) → IsPresent (points_of (without_costs knots)) n → has_node words n ≡ true
  has_node-packed zero h = refl
  has_node-packed (suc k) h =
      let own = record-of_present (state_of_lists knots records) closed.placed k h in
      ap has_placed (record_at-packed k ∙ own.1) ∙ ap is_placed own.2

  present_node : (n : ℕ) → has_node words n ≡ true → IsPresent (points_of (without_costs knots)) n
  present_node zero h = IsPresent-stands (points_of (without_costs knots)) 0 task.scene.start closed.order.start_stands
  present_node (suc k) h =
      let own = placed_in (record_at words k) h in
      present-of_record (state_of_lists knots records) closed.placed k own.0 (sym (record_at-packed k) ∙ own.1) own.2

  pub points-packed : (n : ℕ) → point_at (points_of_words (sizes_of task) words) n ≡ point_at (points_of (without_costs knots)) n
  points-packed n =
      elim (cases_Bool (is_some (point_at (points_of (without_costs knots)) n))) [
        | inl here ↦ (
            let own = HasKnot-present knots n here in
            let is = IsKnot-at knots n own.knot own.at in
            point_at-words sizes words n (fit.nodes n own.knot is).within ∙ node_point-here words n (has_node-packed n here)
            ∙ ap point_of_word (held.nodes n own.knot is).point
            ∙ point_of_word-packed own.knot.point (fit.nodes n own.knot is).point
            ∙ sym (point_at-lists knots n ∙ ap (option_map (λ (knot : Knot). knot.point)) own.at))
        | inr none ↦ (
            point_at-absent sizes words n (false_from_ne_true (has_node words n) (λ h. let gone = sym none ∙ present_node n h in cc))
            ∙ sym (none_some (point_at (points_of (without_costs knots)) n) none))
      ]

  parents :
      (n : ℕ) → IsPresent (points_of (without_costs knots)) n
      → parent_in (words (TreeOf n)) ≡ parent_of (without_costs knots) n
  parents n h =
      let own = HasKnot-present knots n h in
      let is = IsKnot-at knots n own.knot own.at in
      ap parent_in (held.nodes n own.knot is).tree ∙ parent_in-tree_word own.knot.parent own.knot.cost (fit.nodes n own.knot is).parent
      ∙ sym (parent_of-lists knots n own.knot own.at)

  costs : (n : ℕ) → IsPresent (points_of (without_costs knots)) n
      → cost_in (words (TreeOf n)) ≡ kept_cost_of (slice_index_or knots n None)
  costs n h =
      let own = HasKnot-present knots n h in
      let is = IsKnot-at knots n own.knot own.at in
      ap cost_in (held.nodes n own.knot is).tree
      ∙ cost_in-tree_word own.knot.parent own.knot.cost (fit.nodes n own.knot is).parent (fit.nodes n own.knot is).cost ∙ sym (ap kept_cost_of own.at)

  pub AreSameRuns-packed : AreSameRuns (state_of_lists knots records) (state_of_words (sizes_of task) words)
  AreSameRuns-packed = record { points = points-packed; parents = parents; costs = costs; records = record_at-packed }

  -- ---- words as they are packed

  written : (n : ℕ) → IsPresent (points_of_words (sizes_of task) words) n → IsWritten words n
  written n h =
      let own = HasKnot-present knots n (ap is_some (sym (points-packed n)) ∙ h) in
      let is = IsKnot-at knots n own.knot own.at in
      let fits = fit.nodes n own.knot is in
      let holds = held.nodes n own.knot is in
      record {
        point = subst IsPointWord (sym holds.point) (IsPointWord-packed own.knot.point fits.point);
        tree = subst IsTreeWord (sym holds.tree) (IsTreeWord-packed own.knot.parent own.knot.cost fits.parent fits.cost);
        first = first_word n (ap is_some (sym (points-packed n)) ∙ h);
      }
    where
      first_word : (n : ℕ) → IsPresent (points_of (without_costs knots)) n → IsTreeWord (words (FirstOf n))
      first_word zero h = subst IsTreeWord (sym held.start) refl
      first_word (suc k) h =
          let own = record-of_present (state_of_lists knots records) closed.placed k h in
          let fits = fit.records_fit k own.0 own.1 in
          subst IsTreeWord (sym ((held.entries k own.0 own.1).first own.2)) (IsTreeWord-packed own.0.first_parent own.0.first_cost fits.parent fits.cost)

  -- They are those of a closed run once their nodes are linked.
  pub HoldRun-packed : FollowWays (children_of_words words) (points_of_words (sizes_of task) words) → HoldRun task (length records) words
  HoldRun-packed ways = record {
    closed =
        IsClosed-same_run (setup_of task.scene) task.marks (length records) (state_of_lists knots records)
        (state_of_words (sizes_of task) words) closed AreSameRuns-packed;
    ways = ways;
    counted = held.count ∙ sym (node_count-same (points_of (without_costs knots)) (points_of_words (sizes_of task) words) points-packed);
    claimed = held.counters;
    written = written;
    recorded = λ k entry h. (held.entries k entry (sym (record_at-packed k) ∙ h)).own;
    unrecorded = held.none_else;
    start_first = held.start;
    blank = blank;
  }
    where
      no_knot : (n : ℕ) → has_node words n ≡ false → ¬ HasNode knots n
      no_knot n none is =
          let stands = point_at-lists knots n ∙ ap (option_map (λ (knot : Knot). knot.point)) (get_or_from_slice_get knots n (Some is.0) None is.1) in
          let gone = sym none ∙ has_node-packed n (ap is_some stands) in
          cc

      blank : (n : ℕ) → has_node words n ≡ false → IsBlank words n
      blank zero none = cc
      blank (suc k) none = record {
        point = (held.no_knot (suc k) (no_knot (suc k) none)).0;
        tree = (held.no_knot (suc k) (no_knot (suc k) none)).1;
        first = held.no_first k (λ entry is placed. let gone = sym none ∙ ap has_placed (record_at-packed k ∙ is) ∙ ap is_placed placed in cc);
      }
