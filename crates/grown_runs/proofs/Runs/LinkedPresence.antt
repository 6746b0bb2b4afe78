-- Nodes that are present by their links. In a closed run they are those that are present by their records.
use Rattle.grown_runs.proofs.Words.{◌≡◌, ℕ, zero, suc, ◌+◌, ◌≤◌, Bool, true, false, List, [], ◌∷◌, Some, arith, refl, sym, ap, ◌∙◌, inl, inr, ◌≢◌, ◌==◌, ◌||◌}
use Rattle.grown_runs.proofs.Words.{◌⊎◌, is_some, unwrap_or, Option, None, range_with_len, list_any, cases_Bool, eqb-true, list_any_at, get_or-range_with_len}
use Rattle.grown_runs.proofs.Words.{length-range_with_len, Point, Placed, Record, Task, point_of, IsPresent, IsOnWay, goes_on, is_placed-true}
use Rattle.grown_runs.proofs.Words.{present-of_record, StandsAt-present, Words, ChildOf, Sizes, has_placed, has_node, is_child_of, is_linked, IsLinked}
use Rattle.grown_runs.proofs.Words.{record_at, state_by, child_of_word, children_of_words, points_of_words, state_of_words, sizes_of, HoldRun, below}
use Rattle.std.proofs.lemmas.Bool.{eq-eqb}
use Rattle.grown_runs.proofs.Runs.GrownPoints.{has_node-present, present-within}

-- ---- children

child_names : (word n : ℕ) → child_of_word word ≡ Some n → word ≡ n
child_names zero n h = cc
child_names (suc m) n h = ap (λ o. unwrap_or {T = ℕ} o n) h

or_left : (a b : Bool) → a ≡ true → (a || b) ≡ true
or_left true b h = refl
or_left false b h = cc

or_right : (a b : Bool) → b ≡ true → (a || b) ≡ true
or_right true b h = refl
or_right false b h = h

module _ (sizes : Sizes) (words : Words) where
  is_child : (m n : ℕ) (side : Bool) → words (ChildOf m side) ≡ n → is_child_of words n m ≡ true
  is_child m n false h = or_left (words (ChildOf m false) == n) (words (ChildOf m true) == n) (eq-eqb (words (ChildOf m false)) n h)
  is_child m n true h = or_right (words (ChildOf m false) == n) (words (ChildOf m true) == n) (eq-eqb (words (ChildOf m true)) n h)

  -- node 0 is linked
  pub is_linked-start : is_linked sizes words 0 ≡ true
  is_linked-start = refl

  -- and so is each child
  pub is_linked-child : (m n : ℕ) (side : Bool) → m ≤ sizes.marks → children_of_words words m side ≡ Some n → is_linked sizes words n ≡ true
  is_linked-child m n side within h =
      or_right (n == 0) (list_any (is_child_of words n) (range_with_len 0 (sizes.marks + 1)))
      (list_any_at (is_child_of words n) (range_with_len 0 (sizes.marks + 1)) m 0
      (omega (arith, within, length-range_with_len 0 (sizes.marks + 1)))
      (ap (is_child_of words n) (get_or-range_with_len 0 (sizes.marks + 1) m 0 (omega (arith, within)) ∙ omega arith)
      ∙ is_child m n side (child_names (words (ChildOf m side)) n h)))

-- ---- child words

or_cases : (a b : Bool) → (a || b) ≡ true → (a ≡ true) ⊎ (b ≡ true)
or_cases true b h = inl refl
or_cases false b h = inr h

-- a child word that holds node n
pub record InChild (words : Words) (n : ℕ) : Type 0 where
  pub node : ℕ
  pub side : Bool
  pub holds : words (ChildOf node side) ≡ n

module _ (words : Words) (n : ℕ) where
  in_list : (ms : List ℕ) → list_any (is_child_of words n) ms ≡ true → InChild words n
  in_list [] h = cc
  in_list (m ∷ ms) h =
      elim (or_cases (is_child_of words n m) (list_any (is_child_of words n) ms) h) [
        | inl here ↦ elim (or_cases (words (ChildOf m false) == n) (words (ChildOf m true) == n) here) [
          | inl left ↦ record { node = m; side = false; holds = eqb-true (words (ChildOf m false)) n left }
          | inr right ↦ record { node = m; side = true; holds = eqb-true (words (ChildOf m true)) n right }
        ]
        | inr more ↦ in_list ms more
      ]

pub in_child : (sizes : Sizes) (words : Words) (k : ℕ) → is_linked sizes words (suc k) ≡ true → InChild words (suc k)
in_child sizes words k h =
    elim (or_cases (suc k == 0) (list_any (is_child_of words (suc k)) (range_with_len 0 (sizes.marks + 1))) h) [
      | inl none ↦ (let gone = eqb-true (suc k) 0 none in absurd (omega (arith, gone)))
      | inr some ↦ in_list words (suc k) (range_with_len 0 (sizes.marks + 1)) some
    ]

-- ---- linked nodes

module _ (sizes : Sizes) (words : Words) where
  -- A linked node is present by its link, if no number above the marks has a child word.
  pub is_linked-linked : ((m : ℕ) (side : Bool) → words (ChildOf m side) ≢ 0 → m ≤ sizes.marks) → (n : ℕ) → IsLinked words n → is_linked sizes words n ≡ true
  is_linked-linked few zero linked = is_linked-start sizes words
  is_linked-linked few (suc k) (below m j side linked e) =
      is_linked-child sizes words m (suc k) side (few m side (λ none. omega (arith, none, e))) (ap child_of_word e)

-- ---- in a closed run

-- a record of a placed mark
placed_in : (o : Option Record) → has_placed o ≡ true → (entry : Record) × (o ≡ Some entry) × (entry.outcome ≡ Placed)
placed_in None h = cc
placed_in (Some entry) h = (entry, refl, is_placed-true entry.outcome h)

module _ (task : Task) (limit : ℕ) (words : Words) (held : HoldRun task limit words) where
  pub node_present : (n : ℕ) → has_node words n ≡ true → IsPresent (points_of_words (sizes_of task) words) n
  node_present zero h = ap is_some held.closed.order.start_stands
  node_present (suc k) h =
      let own = placed_in (record_at words k) h in
      present-of_record (state_of_words (sizes_of task) words) held.closed.placed k own.0 own.1 own.2

  -- the last step of a way comes from a child word
  by_way : (q : Point) (depth k : ℕ) → IsOnWay (children_of_words words) (points_of_words (sizes_of task) words) q depth (suc k)
      → is_linked (sizes_of task) words (suc k) ≡ true
  by_way q zero k way = elim way [ ]
  by_way q (suc depth) k (goes_on d n c p way stands other link) =
      is_linked-child (sizes_of task) words n (suc k) _ (present-within (sizes_of task) words n (ap is_some stands)) link

  link_true : (n : ℕ) → has_node words n ≡ true → is_linked (sizes_of task) words n ≡ true
  link_true zero h = is_linked-start (sizes_of task) words
  link_true (suc k) h =
      let points = points_of_words (sizes_of task) words in
      let stands = StandsAt-present points (suc k) (node_present (suc k) h) in
      let way = held.ways.on_way (suc k) (point_of points (suc k)) stands in
      by_way (point_of points (suc k)) way.0 k way.1

  node_true : (n : ℕ) → is_linked (sizes_of task) words n ≡ true → has_node words n ≡ true
  node_true zero h = refl
  node_true (suc k) h =
      let own = in_child (sizes_of task) words k h in
      has_node-present (sizes_of task) words (suc k) (held.ways.present own.node (suc k) own.side (ap child_of_word own.holds))

  -- Both say the same of each node.
  pub is_linked-closed : (n : ℕ) → is_linked (sizes_of task) words n ≡ has_node words n
  is_linked-closed n =
      elim (cases_Bool (has_node words n)) [
        | inl here ↦ link_true n here ∙ sym here
        | inr none ↦ elim (cases_Bool (is_linked (sizes_of task) words n)) [
          | inl linked ↦ (let gone = sym none ∙ node_true n linked in cc)
          | inr apart ↦ apart ∙ sym none
        ]
      ]

  -- so the tree of the linked nodes is that of the run
  pub state_by-closed : state_by (is_linked (sizes_of task) words) (sizes_of task) words ≡ state_of_words (sizes_of task) words
  state_by-closed = ap (λ present. state_by present (sizes_of task) words) (λ t n. is_linked-closed n t)

  -- and a number without a node has no child
  pub child-closed : (n : ℕ) (side : Bool) → has_node words n ≡ false → words (ChildOf n side) ≡ 0
  child-closed n side none =
      no_child (words (ChildOf n side))
      (held.ways.empty n side (λ here. let gone = sym none ∙ has_node-present (sizes_of task) words n here in cc))
    where
      no_child : (word : ℕ) → child_of_word word ≡ None → word ≡ 0
      no_child zero h = refl
      no_child (suc m) h = cc
