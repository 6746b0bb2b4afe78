-- The words of a run after its counters, its count, its nodes and its records were written, one after another.
use Rattle.grown_runs.proofs.Words.{◌≡◌, ℕ, suc, Bool, List, [], ◌∷◌, Option, Some, None, length, cond, arith, refl, sym, ap, ◌∙◌, subst, is_some, count_by}
use Rattle.grown_runs.proofs.Words.{slice_index_or, option_map, sum_by-cons, slice_get_within, Record, Task, Knot, IsClosed, point_at, node_count, setup_of}
use Rattle.grown_runs.proofs.Words.{points_of, without_costs, node_count-cons, FollowWays, Word, Words, WritesWord, Count, Counter, PointOf, ChildOf, TreeOf}
use Rattle.grown_runs.proofs.Words.{FirstOf, RecordOf, Sizes, tree_word, sizes_of, points_of_words, state_of_words, child_of_word, children_of_words, HoldRun}
use Rattle.grown_runs.proofs.Words.{AreUnlinked, ChangesChildren, state_of_lists, FitWords, HoldsNode, HoldsRecord, WritesNodes, WritesRecords, CountsMarks}
use Rattle.grown_runs.proofs.Words.{HoldLists, AreSameRuns}
use Rattle.grown_runs.proofs.Runs.PackedStates.{point_at-lists, points-packed, AreSameRuns-packed, HoldRun-packed}

-- as many nodes are present as the list has
pub node_count-lists : (knots : List (Option Knot)) → node_count (points_of (without_costs knots)) ≡ count_by is_some knots
node_count-lists [] = refl
node_count-lists (None ∷ knots) =
    omega (
      arith,
      node_count-cons None (points_of (without_costs knots)),
      sum_by-cons (λ (o : Option Knot). cond {A = ℕ} (is_some o) 1 0) None knots,
      node_count-lists knots,
    )
node_count-lists (Some knot ∷ knots) =
    omega (
      arith,
      node_count-cons (Some knot.point) (points_of (without_costs knots)),
      sum_by-cons (λ (o : Option Knot). cond {A = ℕ} (is_some o) 1 0) (Some knot) knots,
      node_count-lists knots,
    )

module _
    (sizes : Sizes) (knots : List (Option Knot)) (records : List Record) (none counted numbered started noded full : Words)
    (zeros : (name : Word) → none name ≡ 0) (claims : CountsMarks sizes (length records) none counted)
    (number : WritesWord Count (count_by is_some knots) counted numbered) (first : WritesWord (FirstOf 0) (tree_word 0 0) numbered started)
    (nodes : WritesNodes knots (length knots) started noded) (entries : WritesRecords records (length records) noded full) where
  kept_node : (n : ℕ) (knot : Knot) → HoldsNode noded n knot → HoldsNode full n knot
  kept_node n knot held = record {
    point = entries.others (PointOf n) (λ h. h) ∙ held.point;
    tree = entries.others (TreeOf n) (λ h. h) ∙ held.tree;
  }

  pub HoldLists-written : HoldLists sizes knots records full
  HoldLists-written = record {
    count =
        entries.others Count (λ h. h) ∙ nodes.others Count (λ h. h) ∙ first.others Count (λ e. cc) ∙ number.here ∙ sym (node_count-lists knots);
    counters = λ g below.
        let same =
        entries.others (Counter g) (λ h. h) ∙ nodes.others (Counter g) (λ h. h) ∙ first.others (Counter g) (λ e. cc)
        ∙ number.others (Counter g) (λ e. cc) in
        omega (arith, same, claims.counted g below, zeros (Counter g));
    start = entries.others (FirstOf 0) (λ h. h) ∙ nodes.others (FirstOf 0) (λ h. h) ∙ first.here;
    nodes = λ n knot is. kept_node n knot (nodes.hold n knot (slice_get_within knots n (Some knot) is) is);
    entries = λ k entry is. entries.hold k entry (slice_get_within records k entry is) is;
    none_else = λ k past.
        entries.others (RecordOf k) (λ less. omega (arith, past, less)) ∙ nodes.others (RecordOf k) (λ h. h) ∙ first.others (RecordOf k) (λ e. cc)
        ∙ number.others (RecordOf k) (λ e. cc) ∙ claims.others (RecordOf k) (λ h. h) ∙ zeros (RecordOf k);
    no_knot = λ n none. (
      entries.others (PointOf n) (λ h. h) ∙ nodes.others (PointOf n) none ∙ first.others (PointOf n) (λ e. cc) ∙ number.others (PointOf n) (λ e. cc)
          ∙ claims.others (PointOf n) (λ h. h) ∙ zeros (PointOf n),
      entries.others (TreeOf n) (λ h. h) ∙ nodes.others (TreeOf n) none ∙ first.others (TreeOf n) (λ e. cc) ∙ number.others (TreeOf n) (λ e. cc)
          ∙ claims.others (TreeOf n) (λ h. h) ∙ zeros (TreeOf n),
    );
    no_first = λ k none.
        entries.others (FirstOf (suc k)) (λ is. none is.1 is.2 is.3) ∙ nodes.others (FirstOf (suc k)) (λ h. h)
        ∙ first.others (FirstOf (suc k)) (λ e. cc) ∙ number.others (FirstOf (suc k)) (λ e. cc) ∙ claims.others (FirstOf (suc k)) (λ h. h)
        ∙ zeros (FirstOf (suc k));
  }

  -- no node has a child
  pub child-written : (n : ℕ) (side : Bool) → full (ChildOf n side) ≡ 0
  child-written n side =
      entries.others (ChildOf n side) (λ h. h) ∙ nodes.others (ChildOf n side) (λ h. h) ∙ first.others (ChildOf n side) (λ e. cc)
      ∙ number.others (ChildOf n side) (λ e. cc) ∙ claims.others (ChildOf n side) (λ h. h) ∙ zeros (ChildOf n side)

-- ---- before the links

module _ (sizes : Sizes) (knots : List (Option Knot)) (records : List Record) (before after : Words)
    (change : ChangesChildren before after) (held : HoldLists sizes knots records before) where
  same_node : (n : ℕ) (knot : Knot) → HoldsNode before n knot → HoldsNode after n knot
  same_node n knot own = record { point = change (PointOf n) (λ h. h) ∙ own.point; tree = change (TreeOf n) (λ h. h) ∙ own.tree }

  same_entry : (k : ℕ) (entry : Record) → HoldsRecord before k entry → HoldsRecord after k entry
  same_entry k entry own = record {
    own = change (RecordOf k) (λ h. h) ∙ own.own;
    first = λ placed. change (FirstOf (suc k)) (λ h. h) ∙ own.first placed;
  }

  -- links change nothing of the lists
  pub HoldLists-linked : HoldLists sizes knots records after
  HoldLists-linked = record {
    count = change Count (λ h. h) ∙ held.count;
    counters = λ g below. change (Counter g) (λ h. h) ∙ held.counters g below;
    start = change (FirstOf 0) (λ h. h) ∙ held.start;
    nodes = λ n knot is. same_node n knot (held.nodes n knot is);
    entries = λ k entry is. same_entry k entry (held.entries k entry is);
    none_else = λ k past. change (RecordOf k) (λ h. h) ∙ held.none_else k past;
    no_knot = λ n none. (change (PointOf n) (λ h. h) ∙ (held.no_knot n none).0, change (TreeOf n) (λ h. h) ∙ (held.no_knot n none).1);
    no_first = λ k none. change (FirstOf (suc k)) (λ h. h) ∙ held.no_first k none;
  }

-- The nodes of the lists of a closed run may be linked.
pub AreUnlinked-packed :
    (task : Task) (knots : List (Option Knot)) (records : List Record) (words : Words)
    → IsClosed (setup_of task.scene) task.marks (length records) (state_of_lists knots records)
    → FitWords (sizes_of task) knots records → HoldLists (sizes_of task) knots records words
    → ((n : ℕ) (side : Bool) → words (ChildOf n side) ≡ 0)
    → AreUnlinked (sizes_of task) words (λ n. is_some (slice_index_or knots n None))
AreUnlinked-packed task knots records words closed fit held empty = record {
  start = ap is_some (same 0 ∙ closed.order.start_stands);
  distinct = λ i j p one other. closed.order.distinct i j p (sym (same i) ∙ one) (sym (same j) ∙ other);
  same = λ n. ap is_some (same n ∙ point_at-lists knots n) ∙ is_some-point (slice_index_or knots n None);
  no_child = λ n side. ap child_of_word (empty n side);
}
  where
    same : (n : ℕ) → point_at (points_of_words (sizes_of task) words) n ≡ point_at (points_of (without_costs knots)) n
    same = points-packed task knots records words closed fit held

    is_some-point : (o : Option Knot) → is_some (option_map (λ (knot : Knot). knot.point) o) ≡ is_some o
    is_some-point None = refl
    is_some-point (Some knot) = refl

-- ---- a whole run

module _
    (task : Task) (knots : List (Option Knot)) (records : List Record) (sizes : Sizes) (same : sizes ≡ sizes_of task) (before : Words)
    (closed : IsClosed (setup_of task.scene) task.marks (length records) (state_of_lists knots records))
    (fit : FitWords (sizes_of task) knots records) (held : HoldLists sizes knots records before) where
  held_of_task : HoldLists (sizes_of task) knots records before
  held_of_task = subst (λ s. HoldLists s knots records before) same held

  -- its nodes may be linked
  pub AreUnlinked-written :
      ((n : ℕ) (side : Bool) → before (ChildOf n side) ≡ 0) → AreUnlinked sizes before (λ n. is_some (slice_index_or knots n None))
  AreUnlinked-written empty =
      subst (λ s. AreUnlinked s before (λ n. is_some (slice_index_or knots n None))) (sym same)
      (AreUnlinked-packed task knots records before closed fit held_of_task empty)

  module _ (after : Words) (change : ChangesChildren before after) where
    held_after : HoldLists (sizes_of task) knots records after
    held_after = HoldLists-linked (sizes_of task) knots records before after change held_of_task

    -- with the links it is closed
    pub HoldRun-linked : FollowWays (children_of_words after) (points_of_words sizes after) → HoldRun task (length records) after
    HoldRun-linked ways =
        HoldRun-packed task knots records after closed fit held_after
        (subst (λ s. FollowWays (children_of_words after) (points_of_words s after)) same ways)

    -- and has the tree and the records of the lists
    pub AreSameRuns-linked : AreSameRuns (state_of_lists knots records) (state_of_words (sizes_of task) after)
    AreSameRuns-linked = AreSameRuns-packed task knots records after closed fit held_after
