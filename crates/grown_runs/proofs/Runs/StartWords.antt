-- The words of the start alone are those of a closed run at limit 0.
use Rattle.grown_runs.proofs.Words.{◌≡◌, ℕ, zero, suc, Bool, Some, None, List, [], length, get_or, arith, refl, sym, ap, ◌∙◌, subst, inl, inr, false, is_some}
use Rattle.grown_runs.proofs.Words.{replicate, cases_lt, cases_Bool, get_or-replicate, get_or_past, length-replicate, Point, Task, IsBounded, ClearAt, space_of}
use Rattle.grown_runs.proofs.Words.{point_at, StandsAt, IsPresent, setup_of, start_alone, points_of, parent_of, sum_of, state_of, AreSameRuns, FollowWays}
use Rattle.grown_runs.proofs.Words.{IsPresent-stands, not_present, node_count-same, IsClosed-same_run, IsBounded-scene_start, IsClosed-start, node_at-past}
use Rattle.grown_runs.proofs.Words.{FollowWays-start, Word, Words, WritesWord, Count, Counter, PointOf, ChildOf, TreeOf, FirstOf, RecordOf, Sizes, place_of}
use Rattle.grown_runs.proofs.Words.{has_word, parent_in, cost_in, tree_word, point_word, point_of_word, record_at, has_placed, has_node, points_of_words}
use Rattle.grown_runs.proofs.Words.{state_of_words, child_of_word, children_of_words, IsPointWord, IsTreeWord, IsWritten, IsBlank, sizes_of, HoldRun}
use Rattle.plan_model.proofs.NewNodes.{point_at-absent as tree-absent}
use Rattle.grown_runs.specs.Table.WordPlaces.{word_at}
use Rattle.grown_runs.proofs.Runs.GrownPoints.{record_at-unwritten, point_at-absent, point_at-words}
use Rattle.grown_runs.proofs.Table.PackedWords.{parent_in-tree_word, cost_in-tree_word, point_of_word-packed, IsPointWord-packed}
use Rattle.grown_runs.proofs.Table.WordReads.{HasWord-true, word_at-has, word_at-false}

-- the words that are written for the start: the count, and those of node 0 but its children
abbrev pub IsStartWord : Word → Type 0
IsStartWord Count = Unit {0}
IsStartWord (PointOf node) = node ≡ 0
IsStartWord (TreeOf node) = node ≡ 0
IsStartWord (FirstOf node) = node ≡ 0
IsStartWord _ = ⊥

-- The words of the start alone: one node is counted, and only the words of node 0 are written, but no child.
pub record HoldStart (start : Point) (words : Words) : Type 0 where
  pub count : words Count ≡ 1
  pub point : words (PointOf 0) ≡ point_word start
  pub tree : words (TreeOf 0) ≡ tree_word 0 0
  pub first : words (FirstOf 0) ≡ tree_word 0 0
  pub others : (name : Word) → ¬ IsStartWord name → words name ≡ 0

module _ (sizes : Sizes) (start : Point) (words : Words) (bounded : IsBounded start) (held : HoldStart start words) where
  -- no mark has a record
  record_at-none : (k : ℕ) → record_at words k ≡ None
  record_at-none k = record_at-unwritten words k (held.others (RecordOf k) (λ h. h))

  -- the start stands where it should, and no other node is present
  start_stands : point_at (points_of_words sizes words) 0 ≡ Some start
  start_stands = point_at-words sizes words 0 (omega arith) ∙ ap point_of_word held.point ∙ point_of_word-packed start bounded

  none_else : (k : ℕ) → point_at (points_of_words sizes words) (suc k) ≡ None
  none_else k = point_at-absent sizes words (suc k) (ap has_placed (record_at-none k))

  -- as in the tree of the start alone
  same_points : (n : ℕ) → point_at (points_of_words sizes words) n ≡ point_at (points_of (start_alone start)) n
  same_points zero = start_stands
  same_points (suc k) = none_else k ∙ sym (tree-absent (start_alone start) (suc k) (node_at-past (start_alone start) (suc k) (omega arith)))

  no_other : (k : ℕ) → ¬ IsPresent (points_of_words sizes words) (suc k)
  no_other k h = let gone = sym h ∙ ap is_some (none_else k) in cc

  no_other_alone : (k : ℕ) → ¬ IsPresent (points_of (start_alone start)) (suc k)
  no_other_alone k h = not_present (start_alone start) (suc k) (node_at-past (start_alone start) (suc k) (omega arith)) h

  start_parent : parent_in (words (TreeOf 0)) ≡ 0
  start_parent = ap parent_in held.tree ∙ parent_in-tree_word 0 0 (omega arith)

  start_cost : cost_in (words (TreeOf 0)) ≡ 0
  start_cost = ap cost_in held.tree ∙ cost_in-tree_word 0 0 (omega arith) (omega arith)

  -- The words hold the run of the start alone.
  pub AreSameRuns-start : AreSameRuns (state_of (start_alone start) []) (state_of_words sizes words)
  AreSameRuns-start = record { points = same_points; parents = parents; costs = costs; records = record_at-none }
    where
      parents : (n : ℕ) → IsPresent (points_of (start_alone start)) n → parent_in (words (TreeOf n)) ≡ parent_of (start_alone start) n
      parents zero h = start_parent
      parents (suc k) h = absurd (no_other_alone k h)

      costs : (n : ℕ) → IsPresent (points_of (start_alone start)) n → cost_in (words (TreeOf n)) ≡ sum_of (start_alone start) n
      costs zero h = start_cost
      costs (suc k) h = absurd (no_other_alone k h)

  -- ---- the kd-tree

  -- no node has a child
  no_child : (n : ℕ) (side : Bool) → children_of_words words n side ≡ None
  no_child n side = ap child_of_word (held.others (ChildOf n side) (λ h. h))

  start_ways : FollowWays (children_of_words words) (points_of_words sizes words)
  start_ways = FollowWays-start (children_of_words words) (points_of_words sizes words) no_child alone
    where
      alone : (n : ℕ) (q : Point) → StandsAt (points_of_words sizes words) n q → n ≡ 0
      alone zero q h = refl
      alone (suc k) q h = absurd (no_other k (IsPresent-stands (points_of_words sizes words) (suc k) q h))

  -- ---- words as they are packed

  IsWritten-start : (n : ℕ) → IsPresent (points_of_words sizes words) n → IsWritten words n
  IsWritten-start zero h = record {
    point = subst IsPointWord (sym held.point) (IsPointWord-packed start bounded);
    tree = subst IsTreeWord (sym held.tree) refl;
    first = subst IsTreeWord (sym held.first) refl;
  }
  IsWritten-start (suc k) h = absurd (no_other k h)

-- the start of a task fits its word
pub IsBounded-start : (task : Task) → IsBounded task.scene.start
IsBounded-start task = IsBounded-scene_start task.scene

-- The start alone is a closed run at limit 0 if it is clear.
pub HoldRun-start :
    (task : Task) (words : Words) → ClearAt (space_of task.scene) task.scene.start → HoldStart task.scene.start words → HoldRun task 0 words
HoldRun-start task words clear held = record {
  closed =
      IsClosed-same_run (setup_of task.scene) task.marks 0 (state_of (start_alone task.scene.start) [])
      (state_of_words (sizes_of task) words) (IsClosed-start (setup_of task.scene) task.marks clear)
      (AreSameRuns-start (sizes_of task) task.scene.start words bounded held);
  ways = start_ways (sizes_of task) task.scene.start words bounded held;
  counted =
      held.count
      ∙ sym (
      node_count-same (points_of (start_alone task.scene.start)) (points_of_words (sizes_of task) words)
      (same_points (sizes_of task) task.scene.start words bounded held)
      );
  claimed = λ g below. held.others (Counter g) (λ h. h);
  written = IsWritten-start (sizes_of task) task.scene.start words bounded held;
  recorded = λ k entry h. let gone = sym h ∙ record_at-none (sizes_of task) task.scene.start words bounded held k in cc;
  unrecorded = λ k past. held.others (RecordOf k) (λ h. h);
  start_first = held.first;
  blank = blank;
}
  where
    blank : (n : ℕ) → has_node words n ≡ false → IsBlank words n
    blank zero h = cc
    blank (suc k) h = record {
      point = held.others (PointOf (suc k)) (λ e. omega (arith, e));
      tree = held.others (TreeOf (suc k)) (λ e. omega (arith, e));
      first = held.others (FirstOf (suc k)) (λ e. omega (arith, e));
    }

    bounded : IsBounded task.scene.start
    bounded = IsBounded-start task

-- a list of zeros has no other word
pub word_at-zeros : (sizes : Sizes) (items : List ℕ) (length : ℕ) → items ≡ replicate length 0 → (name : Word) → word_at sizes items name ≡ 0
word_at-zeros sizes items length zeros name =
    elim (cases_Bool (has_word sizes name)) [
      | inl here ↦ word_at-has sizes items name (HasWord-true sizes name here) ∙ ap (λ list. get_or list (place_of sizes name) 0) zeros
          ∙ get_or-zeros length (place_of sizes name)
      | inr none ↦ word_at-false sizes items name none
    ]
  where
    get_or-zeros : (n i : ℕ) → get_or {A = ℕ} (replicate n 0) i 0 ≡ 0
    get_or-zeros n i =
        elim (cases_lt i n) [
          | inl below ↦ get_or-replicate n i 0 0 below
          | inr past ↦ get_or_past (replicate n 0) i 0 (omega (arith, past, length-replicate {A = ℕ} n 0))
        ]

-- The words of the start alone are written where all were 0.
pub HoldStart-written :
    (start : Point) (none one two three all : Words) → ((name : Word) → none name ≡ 0) → WritesWord Count 1 none one
    → WritesWord (PointOf 0) (point_word start) one two → WritesWord (TreeOf 0) (tree_word 0 0) two three
    → WritesWord (FirstOf 0) (tree_word 0 0) three all → HoldStart start all
HoldStart-written start none one two three all zeros counts points trees firsts = record {
  count = firsts.others Count (λ h. cc) ∙ trees.others Count (λ h. cc) ∙ points.others Count (λ h. cc) ∙ counts.here;
  point = firsts.others (PointOf 0) (λ h. cc) ∙ trees.others (PointOf 0) (λ h. cc) ∙ points.here;
  tree = firsts.others (TreeOf 0) (λ h. cc) ∙ trees.here;
  first = firsts.here;
  others = λ name other.
      firsts.others name (λ same. other (subst IsStartWord (sym same) refl))
      ∙ trees.others name (λ same. other (subst IsStartWord (sym same) refl))
      ∙ points.others name (λ same. other (subst IsStartWord (sym same) refl))
      ∙ counts.others name (λ same. other (subst IsStartWord (sym same) tt)) ∙ zeros name;
}
