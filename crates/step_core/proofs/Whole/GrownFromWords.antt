-- A state in which all stands that a view has seen has grown from a closed run, if the view has seen at least the words of that run.
use Rattle.step_core.proofs.Words.{◌≡◌, ◌<◌, ◌≤◌, ◌^◌, ◌∙◌, ℕ, zero, suc, true, List, length, Option, Some, None, refl, sym, ap, subst, inl, inr, arith}
use Rattle.step_core.proofs.Words.{is_some, has_outcome, is_placed, IsPresent, StandsAt, GrowsInto, TreeState, first_cost_of, recorded_or, Point, Record, Task}
use Rattle.step_core.proofs.Words.{state_of_grown, words_of_grown, HoldRun, has_node, has_placed, points_of_words, record_at, sizes_of, state_of_words}
use Rattle.step_core.proofs.Words.{AreBehind, Falls, MayBecome, Falling, Words, FirstOf, PointOf, RecordOf, TreeOf, point_of_word, has_node-present}
use Rattle.step_core.proofs.Words.{point_of_word-stands, present-within, HasOrFell, StandsAsSeen, SeesPoint, run_of, run_sizes, sees, Grown, View}
use Rattle.step_core.proofs.Seen.SeenWords.{point_at-seen, same_once}
use Rattle.step_core.proofs.Parts.LinkedStates.{record-stays}

-- ---- single words

-- a tree word is seen as it is, or at a lower cost
falls-written : (word seen : ℕ) → MayBecome Falling word seen → 0 < word → Falls word seen
falls-written word seen (inl none) written = absurd (omega (arith, none, written))
falls-written word seen (inr falls) written = falls

-- so it is seen as a written one
written-falls : (word seen : ℕ) → Falls word seen → 2 ^ 63 ≤ word → 2 ^ 63 ≤ seen
written-falls word seen (inl same) written = omega (arith, same, written)
written-falls word seen (inr fell) written = fell.0

-- a node that has what was seen, or costs less, has what was in the word before, or costs less
has_or_fell-before : (state : TreeState) (n word seen : ℕ) → Falls word seen → HasOrFell state n seen → HasOrFell state n word
has_or_fell-before state n word seen (inl same) now = subst (HasOrFell state n) (sym same) now
has_or_fell-before state n word seen (inr fell) (inl has) = inr (omega (arith, fell.1, has.0))
has_or_fell-before state n word seen (inr fell) (inr lower) = inr (omega (arith, fell.1, lower))

-- a placed mark by either name
pub placed_mark : (o : Option Record) → has_placed o ≡ has_outcome is_placed o
placed_mark None = refl
placed_mark (Some entry) = refl

-- if the record of a placed mark stands, its first cost does
recorded_or-stands :
    (written other : ℕ) (before after : Option Record) → has_placed before ≡ true
    → ((entry : Record) → before ≡ Some entry → after ≡ Some entry) → recorded_or other after ≡ recorded_or written before
recorded_or-stands written other None after placed stands = cc
recorded_or-stands written other (Some entry) after placed stands = ap (recorded_or other) (stands entry refl)

-- ---- the words of a closed run

module _ (task : Task) (limit : ℕ) (words : Words) (held : HoldRun task limit words) (seen : Words) (behind : AreBehind words seen) where
  abbrev points : List (Option Point)
  points = points_of_words (sizes_of task) words

  -- the node of a placed mark is present
  present-placed : (k : ℕ) → has_node words (suc k) ≡ true → IsPresent points (suc k)
  present-placed k placed = held.closed.placed k ∙ sym (placed_mark (record_at words k)) ∙ placed

  -- the point of a present node is seen
  same_point : (n : ℕ) → IsPresent points n → seen (PointOf n) ≡ words (PointOf n)
  same_point n here = sym (same_once (behind (PointOf n)) (omega (arith, (held.written n here).point)))

  -- and what it was placed at
  same_first : (n : ℕ) → IsPresent points n → seen (FirstOf n) ≡ words (FirstOf n)
  same_first n here = sym (same_once (behind (FirstOf n)) (omega (arith, (held.written n here).first)))

  -- and its parent and its cost, or a lower cost
  falls-seen : (n : ℕ) → IsPresent points n → Falls (words (TreeOf n)) (seen (TreeOf n))
  falls-seen n here = falls-written (words (TreeOf n)) (seen (TreeOf n)) (behind (TreeOf n)) (omega (arith, (held.written n here).tree))

  -- its tree word is seen as a written one
  tree_written-seen : (n : ℕ) → IsPresent points n → 2 ^ 63 ≤ seen (TreeOf n)
  tree_written-seen n here = written-falls (words (TreeOf n)) (seen (TreeOf n)) (falls-seen n here) (omega (arith, (held.written n here).tree))

  -- each record is seen
  record-seen : (k : ℕ) (entry : Record) → record_at words k ≡ Some entry → record_at seen k ≡ Some entry
  record-seen k entry = record-stays words seen k entry (behind (RecordOf k)) (λ placed. same_first (suc k) (present-placed k placed))

-- ---- what a view has seen of them

module _ (task : Task) (limit : ℕ) (words : Words) (held : HoldRun task limit words) (view : View) (state : TreeState)
    (marks : length view.run.marks ≡ length task.marks) (behind : AreBehind words (sees view)) (stands : StandsAsSeen view state) where
  abbrev opening : TreeState
  opening = state_of_words (sizes_of task) words

  -- a node of the run is seen where it stands
  point-seen : (n : ℕ) (p : Point) → StandsAt opening.points n p → SeesPoint view n p
  point-seen n p h =
      let here : IsPresent opening.points n = ap is_some h in
      let within : n ≤ length view.run.marks = omega (arith, present-within (sizes_of task) words n here, marks) in
      point_at-seen (run_sizes view.run) (sees view) n within
      ∙ ap point_of_word (same_point task limit words held (sees view) behind n here) ∙ point_of_word-stands (sizes_of task) words n p h

  -- so it has its parent and its cost in the state, or costs less
  has_or_fell-seen : (n : ℕ) → IsPresent opening.points n → HasOrFell state n (words (TreeOf n))
  has_or_fell-seen n here =
      has_or_fell-before state n (words (TreeOf n)) (sees view (TreeOf n)) (falls-seen task limit words held (sees view) behind n here)
      (stands.trees n (tree_written-seen task limit words held (sees view) behind n here))

  -- the records stand
  record-stands : (k : ℕ) (entry : Record) → opening.record_of k ≡ Some entry → state.record_of k ≡ Some entry
  record-stands k entry e = stands.records k entry (record-seen task limit words held (sees view) behind k entry e)

  -- and so do the first costs, by the records
  first_cost-stands : (n : ℕ) → IsPresent opening.points n → first_cost_of state n ≡ first_cost_of opening n
  first_cost-stands zero here = refl
  first_cost-stands (suc k) here =
      recorded_or-stands (opening.written_cost (suc k)) (state.written_cost (suc k)) (opening.record_of k) (state.record_of k)
      (has_node-present (sizes_of task) words (suc k) here) (record-stands k)

  -- The state has grown from the run of these words.
  pub GrowsInto-words : GrowsInto opening state
  GrowsInto-words = record {
    nodes = λ n p h. stands.points n p (point-seen n p h);
    first_costs = first_cost-stands;
    trees = has_or_fell-seen;
    records = record-stands;
  }

-- The same of a closed run and a view of its task.
pub GrowsInto-seen :
    (grown : Grown) (view : View) (state : TreeState) (workers limit : ℕ) → view.run ≡ run_of grown.task workers limit
    → AreBehind (words_of_grown grown) (sees view) → StandsAsSeen view state → GrowsInto (state_of_grown grown) state
GrowsInto-seen grown view state workers limit own behind stands =
    GrowsInto-words grown.task grown.limit (words_of_grown grown) grown.hold_run view state (ap (λ r. length r.marks) own) behind stands
