-- What a view that sees its tree says of the linked nodes: a node that it sees is linked, where it sees it, and a way that it sees is one
-- through the tree.
use Rattle.step_core.proofs.Words.{◌≡◌, ◌≤◌, ◌∙◌, ℕ, Bool, true, length, sym, ap, subst, inl, inr, arith, is_some, Point, IsBounded, mark_at, AreDistinct}
use Rattle.step_core.proofs.Words.{IsFree, IsPresent, point_of, FollowSeenWays, IsTrueOf, SharedTree, IsLaterMoment, KeepsSight, EndsBelow, FollowWays}
use Rattle.step_core.proofs.Words.{StandsAt-present, IsStep-steered, AreDistinct-true, FollowSeenWays-true, IsOnWay-true, IsPresent-true, EndsBelow-free}
use Rattle.step_core.proofs.Words.{child_of_word, children_of_words, is_linked, AreBehind, Words, ChildOf, PointOf, Sizes, point_of_word, point_word}
use Rattle.step_core.proofs.Words.{IsBounded-word, point_of_word-packed, is_linked-child, is_linked-start, IsLater, IsLawfulView, linked_points}
use Rattle.step_core.proofs.Words.{shared_tree_of_words, IsSteered, LeadsTo, SeesNode, SeesPoint, SeesTree, sight_in, run_sizes, sees, tree_seen, View, zero}
use Rattle.step_core.proofs.Words.{suc, refl, IsTrue, IsGoalNode, is_goal_point, point_at, IsPresent-goal, has_node, has_placed, Best, FirstOf, RecordOf}
use Rattle.step_core.proofs.Words.{best_word, cost_in, record_of_word, tree_word, IsAtMostPlaced, SeesGoal, seen_first_cost, BestWord, ◌≢◌, ◌<◌, ◌^◌, ◌*◌, Some}
use Rattle.step_core.proofs.Words.{None, abs_diff, cond, le-ltb, MOST_NODES, ClearAt, Hangs, IsAllowedEdge, StandsAt, node_count, AreSeenLawfully, Setup}
use Rattle.step_core.proofs.Words.{first_cost_of, point_of-stands, most_cost_of-within, Clear-alone, TreeOf, parent_in, tree_of_word, IsSeenPair, IsSharedRun}
use Rattle.step_core.proofs.Words.{setup_in, Trees, state_in}
use Rattle.step_core.proofs.OneView.SeenViews.{HasSeenAtLeast-later}
use Rattle.step_core.proofs.Seen.SeenWords.{child_says, point_at-seen, point_says, seen-within, IsTrueOf-words, linked-within, has_node-same, same_once}

-- ---- points within bounds

-- a point that is seen is within bounds
pub IsBounded-seen : (view : View) (n : ℕ) (p : Point) → SeesPoint view n p → IsBounded p
IsBounded-seen view n p h =
    let sizes : Sizes = run_sizes view.run in
    IsBounded-word (sees view (PointOf n)) p (sym (point_at-seen sizes (sees view) n (seen-within sizes (sees view) n (ap is_some h))) ∙ h)

-- So a step from a seen node towards a mark ends within bounds.
pub IsBounded-steered : (view : View) (k m : ℕ) (p : Point) → IsBounded (mark_at view.run.marks k) → IsSteered view k m p → IsBounded p
IsBounded-steered view k m p mark step =
    let from = IsBounded-seen view m step.from step.seen in
    let box = (IsStep-steered step.from (mark_at view.run.marks k) view.run.step).within in
    subst IsBounded (sym step.reached) record { right = omega (arith, box.right, from.right, mark.right); top = omega (arith, box.top, from.top, mark.top) }

-- ---- seen of the linked nodes

module _ (view : View) (words : Words) (behind : AreBehind (sees view) words) (tree : SeesTree view)
    (follow : FollowWays (children_of_words words) (linked_points (run_sizes view.run) words)) where
  abbrev sizes : Sizes
  sizes = run_sizes view.run

  abbrev now : SharedTree
  now = shared_tree_of_words sizes words

  -- What is seen is true,
  pub IsTrueOf-seen : IsTrueOf (tree_seen view) now
  IsTrueOf-seen = IsTrueOf-words sizes (sees view) words behind tree.rooted follow

  -- follows ways,
  pub FollowSeenWays-seen : FollowSeenWays (tree_seen view)
  FollowSeenWays-seen = FollowSeenWays-true (tree_seen view) now IsTrueOf-seen tree.rooted follow

  -- and has no two nodes at one point.
  pub AreDistinct-seen : AreDistinct (tree_seen view).points
  AreDistinct-seen = AreDistinct-true (tree_seen view) now IsTrueOf-seen follow

  -- A seen node is present,
  pub IsPresent-seen : (n : ℕ) → SeesNode view n → IsPresent (linked_points sizes words) n
  IsPresent-seen = IsPresent-true (tree_seen view) now IsTrueOf-seen tree.rooted follow

  -- no number past the last mark's,
  pub SeesNode-within : (n : ℕ) → SeesNode view n → n ≤ length view.run.marks
  SeesNode-within n h = linked-within sizes words n (IsPresent-seen n h)

  -- and linked.
  pub is_linked-seen : (n : ℕ) → SeesNode view n → is_linked sizes words n ≡ true
  is_linked-seen n (inl start) = ap (is_linked sizes words) start ∙ is_linked-start sizes words
  is_linked-seen n (inr (a, side, link)) =
      is_linked-child sizes words a n side (SeesNode-within a (tree.rooted.children a n side link)) (child_says sizes (sees view) words behind a n side link)

  -- Node 0 is seen at the start.
  pub SeesPoint-start : words (PointOf 0) ≡ point_word view.run.start → IsBounded view.run.start → SeesPoint view 0 view.run.start
  SeesPoint-start is bounded =
      let p : Point = point_of (tree_seen view).points 0 in
      let stands = StandsAt-present (tree_seen view).points 0 tree.rooted.start in
      stands ∙ sym (point_says sizes (sees view) words behind 0 p stands) ∙ ap point_of_word is ∙ point_of_word-packed view.run.start bounded

  -- A way that leads to an empty child word ends there.
  pub EndsBelow-leads : (p : Point) (n : ℕ) (side : Bool) (leads : LeadsTo view p n side) → words (ChildOf n side) ≡ 0
      → EndsBelow (children_of_words words) (linked_points sizes words) p leads.depth n leads.at
  EndsBelow-leads p n side leads empty = record {
    on_way = IsOnWay-true (tree_seen view) now IsTrueOf-seen p leads.depth n leads.on_way;
    stands = IsTrueOf-seen.places.nodes n leads.at leads.stands;
    other = leads.apart;
    empty = ap (children_of_words words n) leads.side_is ∙ ap child_of_word empty;
  }

  -- So no linked node stands at its point.
  pub IsFree-leads : (p : Point) (n : ℕ) (side : Bool) → LeadsTo view p n side → words (ChildOf n side) ≡ 0 → IsFree (linked_points sizes words) p
  IsFree-leads p n side leads empty =
      EndsBelow-free (children_of_words words) (linked_points sizes words) follow p leads.depth n leads.at (EndsBelow-leads p n side leads empty)

-- ---- sights

-- A lawful view keeps what a sight keeps,
pub KeepsSight-lawful : (view : View) → IsLawfulView view → KeepsSight (sight_in view)
KeepsSight-lawful view lawful = record {
  rooted = lawful.tree.rooted;
  ways = lawful.ways;
  steps = λ n side. lawful.of_run.zero_looks (ChildOf n side);
}

-- and a later view is a later moment of its sight.
pub IsLaterMoment-later : (before after : View) → IsLater before after → IsLaterMoment (sight_in before) (sight_in after)
IsLaterMoment-later before after later = record {
  seen = HasSeenAtLeast-later before after later.run later.seen;
  steps = later.steps;
  empty = λ n side.
      elim (later.zero_found (ChildOf n side) (λ e. cc)) [
        | inl same ↦ inl same
        | inr since ↦ inr (since.0, ap child_of_word since.1)
      ];
}

-- ---- goal nodes that are seen, and what they were placed at

-- what is seen recorded as placed is
pub node-now : (words : Words) (view : View) → AreBehind (sees view) words → (n : ℕ) → has_node (sees view) n ≡ true → has_node words n ≡ true
node-now words view behind zero h = refl
node-now words view behind (suc k) h =
    elim (behind (RecordOf k)) [
      | inr same ↦ has_node-same (sees view) words k (sym same) ∙ h
      | inl unseen ↦ (let no = ap (λ w. has_placed (record_of_word w (sees view (FirstOf (suc k))))) (sym unseen) ∙ h in cc)
    ]

module _ (words : Words) (view : View) (behind : AreBehind (sees view) words) (sees_tree : SeesTree view)
    (ways : FollowWays (children_of_words words) (linked_points (run_sizes view.run) words)) where
  pub goal-now : (n : ℕ) → SeesGoal view n → IsGoalNode view.run.goals (linked_points (run_sizes view.run) words) n
  goal-now n goal =
      let here = IsPresent-goal view.run.goals (point_at (tree_seen view).points n) goal in
      let stands = StandsAt-present (tree_seen view).points n here in
      let now = (IsTrueOf-seen view words behind sees_tree ways).places.nodes n (point_of (tree_seen view).points n) stands in
      subst (λ o. IsTrue (is_goal_point view.run.goals o)) (stands ∙ sym now) goal

  module _ (start_first : words (FirstOf 0) ≡ tree_word 0 0) where
    pub first-now : (n : ℕ) → has_node (sees view) n ≡ true → cost_in (words (FirstOf n)) ≡ seen_first_cost view n
    first-now zero h = ap cost_in start_first
    first-now (suc k) h =
        ap cost_in (sym (same_once (behind (FirstOf (suc k))) (omega (arith, sees_tree.placed_first k h))))

    -- the best word is at most the pair of each
    pub least-now : BestWord view.run words → IsAtMostPlaced view (words Best)
    least-now best n node goal =
        subst (λ c. words Best ≤ best_word c n) (first-now n node) (best.placed n (node-now words view behind n node) (goal-now n goal))

-- ---- parents and costs that are seen

-- the edge from a clear point to itself is allowed
IsAllowedEdge-alone : (setup : Setup) (p : Point) → ClearAt setup.space p → IsAllowedEdge setup p p
IsAllowedEdge-alone setup p clear =
    let across : abs_diff p.x p.x ≡ 0 = omega arith in
    let up : abs_diff p.y p.y ≡ 0 = omega arith in
    record {
      clear = Clear-alone setup.space p clear;
      short = omega (arith, ap (λ (g : ℕ). g * g) across, ap (λ (g : ℕ). g * g) up);
    }

-- a word with bit 63 holds its parent and its cost
pub tree_of_word-written : (word : ℕ) → 2 ^ 63 ≤ word → tree_of_word word ≡ Some (parent_in word, cost_in word)
tree_of_word-written word written = ap (λ b. cond b None (Some (parent_in word, cost_in word))) (le-ltb word (2 ^ 63) written)

module _ (view : View) (words : Words) (behind : AreBehind (sees view) words) (tree : SeesTree view)
    (follow : FollowWays (children_of_words words) (linked_points (run_sizes view.run) words)) (run_is : IsSharedRun view.run)
    (trees : Trees view.run words) (pairs : AreSeenLawfully (setup_in view.run) (tree_seen view) (state_in view.run words))
    (first_costs : (n : ℕ) → is_linked (run_sizes view.run) words n ≡ true → first_cost_of (state_in view.run words) n ≡ cost_in (words (FirstOf n)))
    (linked : (n : ℕ) → IsPresent (linked_points (run_sizes view.run) words) n → is_linked (run_sizes view.run) words n ≡ true)
    (few : node_count (linked_points (run_sizes view.run) words) ≤ MOST_NODES) (n : ℕ) (written : 2 ^ 63 ≤ sees view (TreeOf n)) where
  abbrev word : ℕ
  word = sees view (TreeOf n)

  seen : (tree_seen view).parent_and_cost n ≡ Some (parent_in word, cost_in word)
  seen = tree_of_word-written word written

  present : IsPresent (linked_points (run_sizes view.run) words) n
  present = pairs.present n (parent_in word, cost_in word) seen

  stays : (k : ℕ) (p : Point) → SeesPoint view k p → StandsAt (linked_points (run_sizes view.run) words) k p
  stays = (IsTrueOf-seen view words behind tree follow).places.nodes

  hangs : (m : ℕ) → n ≡ suc m
      → Hangs (setup_in view.run) (state_in view.run words) n (point_of (linked_points (run_sizes view.run) words) n) (parent_in word) (cost_in word)
  hangs m e =
      subst (λ i. (2 ^ 63 ≤ sees view (TreeOf i)) → Hangs (setup_in view.run) (state_in view.run words) i
      (point_of (linked_points (run_sizes view.run) words) i) (parent_in (sees view (TreeOf i))) (cost_in (sees view (TreeOf i)))) (sym e)
      (λ here. pairs.hangs m _ (tree_of_word-written (sees view (TreeOf (suc m))) here)) written

  at_start : n ≡ 0 → (parent_in word ≡ 0) × (cost_in word ≡ 0)
  at_start e =
      let both = pairs.start (parent_in word, cost_in word) (ap (tree_seen view).parent_and_cost (sym e) ∙ seen) in
      (ap (λ (p : ℕ × ℕ). p.0) both, ap (λ (p : ℕ × ℕ). p.1) both)

  by_number : (m : ℕ) → n ≡ m → parent_in word ≤ length view.run.marks
  by_number zero e = omega (arith, (at_start e).0)
  by_number (suc m) e = linked-within (run_sizes view.run) words (parent_in word) (hangs m e).present

  above : (m : ℕ) → 0 < m → n ≡ m → parent_in word ≢ n
  above zero some_node e = elim some_node [ ]
  above (suc m) some_node e = (hangs m e).other

  -- the start is its own parent, and is clear
  alone : n ≡ 0 → (at from : Point) → SeesPoint view n at → SeesPoint view (parent_in word) from → IsAllowedEdge (setup_in view.run) from at
  alone e at from here there =
      let points = linked_points (run_sizes view.run) words in
      let start : Point = view.run.start in
      let at_is : at ≡ start = sym (point_of-stands points 0 at (subst (λ i. StandsAt points i at) e (stays n at here)))
      ∙ point_of-stands points 0 start trees.order.start_stands in
      let from_is : from ≡ start =
      sym (point_of-stands points 0 from (subst (λ i. StandsAt points i from) (at_start e).0 (stays (parent_in word) from there)))
      ∙ point_of-stands points 0 start trees.order.start_stands in
      subst (λ p. IsAllowedEdge (setup_in view.run) p at) (sym from_is)
      (subst (λ p. IsAllowedEdge (setup_in view.run) start p) (sym at_is) (IsAllowedEdge-alone (setup_in view.run) start trees.order.start_clear))

  allowed : (m : ℕ) → n ≡ m → (at from : Point) → SeesPoint view n at → SeesPoint view (parent_in word) from → IsAllowedEdge (setup_in view.run) from at
  allowed zero e at from here there = alone e at from here there
  allowed (suc m) e at from here there =
      let own = point_of-stands (linked_points (run_sizes view.run) words) n at (stays n at here) in
      let other = point_of-stands (linked_points (run_sizes view.run) words) (parent_in word) from (stays (parent_in word) from there) in
      subst (λ p. IsAllowedEdge (setup_in view.run) p at) other
      (subst (λ p. IsAllowedEdge (setup_in view.run) (point_of (linked_points (run_sizes view.run) words) (parent_in word)) p) own (hangs m e).edge)

  -- it is one of a tree within the limits
  pub IsSeenPair-lawful : IsSeenPair view n
  IsSeenPair-lawful =
      let below = pairs.first n (parent_in word, cost_in word) seen in
      let first = trees.first_costs.bounded n present in
      let most = most_cost_of-within (setup_in view.run) (node_count (linked_points (run_sizes view.run) words)) run_is.step few in
      record {
        low = omega (arith, below, first, most);
        within = by_number n refl;
        start = at_start;
        other = λ some_node. above n some_node refl;
        edge = allowed n refl;
        first = λ seen_first.
            elim (behind (FirstOf n)) [
              | inl none ↦ absurd (omega (arith, none, seen_first))
              | inr same ↦ omega (arith, ap cost_in same, first_costs n (linked n present), below)
            ];
      }
