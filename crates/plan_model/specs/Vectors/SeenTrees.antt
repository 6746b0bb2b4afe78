-- What two workers have seen of a kd-tree of five nodes: one when a call begins, after 6 steps, and when it returns, after 10; the other after 7
-- steps; and what the first has seen when it has taken over what the other has.
use Rattle.std.specs.Prelude.{◌≡◌, ℕ, zero, suc, Bool, true, false, Option, Some, None, List, [], ◌∷◌}
use Rattle.plan_model.specs.Terms.{Point}
use Rattle.plan_model.specs.Seen.SeenTrees.{goes_right, IsOnWay, EndsBelow, IsSeen, HasSeenAtLeast, SharedTree, IsTrueOf}
use Rattle.plan_model.specs.Vectors.Geometry.{at}
use Rattle.plan_model.specs.Trees.NodeLists.{IsPresent}
use Rattle.plan_model.specs.Seen.Sights.{Sight, KeepsSight, IsLaterMoment, TakesOver, IsSwept}

-- ---- Ways through a kd-tree of three nodes.
abbrev pub three_points : List (Option Point)
three_points = Some (at 5 5) ∷ Some (at 5 3) ∷ Some (at 9 2) ∷ []

-- node 1 to the right of node 0, and node 2 to the left of node 1
abbrev pub three_children : ℕ → Bool → Option ℕ
three_children zero true = Some 1
three_children (suc zero) false = Some 2
three_children _ _ = None

pub record WayVectors : Type 0 where
  -- by columns, then by rows
  pub lesser_column : goes_right 0 (at 5 5) (at 4 9) ≡ false
  pub same_column : goes_right 0 (at 5 5) (at 5 3) ≡ true
  pub lesser_row : goes_right 1 (at 5 3) (at 9 2) ≡ false
  pub same_row : goes_right 1 (at 5 3) (at 2 3) ≡ true
  pub columns_again : goes_right 2 (at 9 2) (at 8 7) ≡ false
  -- a way to each node
  pub to_node_0 : IsOnWay three_children three_points (at 5 5) 0 0
  pub to_node_1 : IsOnWay three_children three_points (at 5 3) 1 1
  pub to_node_2 : IsOnWay three_children three_points (at 9 2) 2 2
  -- and no further
  pub stops : (m : ℕ) → ¬ IsOnWay three_children three_points (at 5 3) 2 m
  -- free points
  pub ends_at_once : EndsBelow three_children three_points (at 4 3) 0 0 (at 5 5)
  pub ends_beside_a_child : EndsBelow three_children three_points (at 9 9) 1 1 (at 5 3)
  pub ends_at_a_leaf : EndsBelow three_children three_points (at 8 1) 2 2 (at 9 2)

-- ---- seen trees
-- step 3 had found the place to the left of node 0 empty
abbrev pub found_at_entry : ℕ → Bool → ℕ
found_at_entry zero false = 3
found_at_entry _ _ = 0

-- step 8 finds the place to the right of node 1 empty
abbrev pub found_at_return : ℕ → Bool → ℕ
found_at_return (suc zero) true = 8
found_at_return n side = found_at_entry n side

-- step 10 finds node 3 there
abbrev pub four_children : ℕ → Bool → Option ℕ
four_children (suc zero) true = Some 3
four_children n side = three_children n side

abbrev pub trees_at_entry : ℕ → Option (ℕ × ℕ)
trees_at_entry zero = Some (0, 0)
trees_at_entry (suc zero) = Some (0, 512)
trees_at_entry (suc (suc zero)) = Some (1, 1568)
trees_at_entry _ = None

-- step 9 finds node 2 below node 0
abbrev pub trees_at_return : ℕ → Option (ℕ × ℕ)
trees_at_return (suc (suc zero)) = Some (0, 1280)
trees_at_return n = trees_at_entry n

abbrev pub at_entry : Sight
at_entry = record {
  seen = record { child = three_children; points = three_points; parent_and_cost = trees_at_entry; record_of = λ k. None; counter = λ strip. 2; count = 3 };
  steps = 6;
  found_empty = found_at_entry;
}

-- step 7 finds a count of 4
abbrev pub at_return : Sight
at_return = record {
  seen = record { child = four_children; points = three_points; parent_and_cost = trees_at_return; record_of = λ k. None; counter = λ strip. 2; count = 4 };
  steps = 10;
  found_empty = found_at_return;
}

-- ---- another worker
-- its step 2 found the place to the left of node 0 empty
abbrev pub found_by_other : ℕ → Bool → ℕ
found_by_other zero false = 2
found_by_other _ _ = 0

-- and a later step node 4 there
abbrev pub others_children : ℕ → Bool → Option ℕ
others_children zero false = Some 4
others_children n side = three_children n side

abbrev pub others_points : List (Option Point)
others_points = Some (at 5 5) ∷ Some (at 5 3) ∷ None ∷ None ∷ Some (at 4 3) ∷ []

abbrev pub others_trees : ℕ → Option (ℕ × ℕ)
others_trees (suc (suc (suc (suc zero)))) = Some (0, 573)
others_trees n = trees_at_entry n

abbrev pub of_other : Sight
of_other = record {
  seen = record { child = others_children; points = others_points; parent_and_cost = others_trees; record_of = λ k. None; counter = λ strip. 3; count = 4 };
  steps = 7;
  found_empty = found_by_other;
}

-- ---- both
abbrev pub five_children : ℕ → Bool → Option ℕ
five_children zero false = Some 4
five_children n side = four_children n side

abbrev pub points_of_both : List (Option Point)
points_of_both = Some (at 5 5) ∷ Some (at 5 3) ∷ Some (at 9 2) ∷ None ∷ Some (at 4 3) ∷ []

-- of node 2 the lesser cost
abbrev pub trees_of_both : ℕ → Option (ℕ × ℕ)
trees_of_both (suc (suc (suc (suc zero)))) = Some (0, 573)
trees_of_both n = trees_at_return n

-- the first worker, when it has taken over what the other has seen
abbrev pub of_both : Sight
of_both = record {
  seen = record { child = five_children; points = points_of_both; parent_and_cost = trees_of_both; record_of = λ k. None; counter = λ strip. 3; count = 4 };
  steps = 10;
  found_empty = found_at_return;
}

-- ---- the tree
abbrev pub five_points : List (Option Point)
five_points = Some (at 5 5) ∷ Some (at 5 3) ∷ Some (at 9 2) ∷ Some (at 9 8) ∷ Some (at 4 3) ∷ []

-- the cost of node 2, and the other costs below node 0
abbrev pub costs_with : ℕ → ℕ → ℕ
costs_with cost (suc zero) = 512
costs_with cost (suc (suc zero)) = cost
costs_with cost (suc (suc (suc zero))) = 1280
costs_with cost (suc (suc (suc (suc zero)))) = 573
costs_with cost _ = 0

-- the parent of node 2; all others hang below node 0
abbrev pub parents_with : ℕ → ℕ → ℕ
parents_with parent (suc (suc zero)) = parent
parents_with parent _ = 0

abbrev pub tree_with : ℕ → ℕ → SharedTree
tree_with parent cost = record {
  state = record { points = five_points; parent = parents_with parent; cost = costs_with cost; written_cost = λ n. 0; record_of = λ k. None };
  child = five_children;
  counter = λ strip. 3;
  count = 5;
}

-- node 2 hangs below node 0 now
abbrev pub tree_now : SharedTree
tree_now = tree_with 0 1280

-- it hung below node 1 before
abbrev pub tree_before : SharedTree
tree_before = tree_with 1 1568

pub record SeenTreeVectors : Type 0 where
  pub later : IsLaterMoment at_entry at_return
  pub keeps : KeepsSight at_return
  -- node 3 is seen, and its point is not
  pub seen : IsSeen at_return.seen 3
  pub without_point : ¬ IsPresent at_return.seen.points 3
  pub not_seen : ¬ IsSeen at_return.seen 4
  -- the place to the right of node 1 was found empty in the call, and is filled
  pub swept : IsSwept at_return 6 (at 9 9)
  pub swept_at_node : IsSwept at_return 6 (at 9 2)
  -- the place to the left of node 0 was found empty before the call
  pub found_before : ¬ IsSwept at_return 6 (at 4 3)
  pub found_in_earlier_call : IsSwept at_return 2 (at 4 3)
  -- and step 8 is no step after 8
  pub last_step : ¬ IsSwept at_return 8 (at 9 9)
  -- the cost of node 2 that was seen at entry is above the one now; the one that was seen at return was not yet true before
  pub true_now : IsTrueOf at_entry.seen tree_now
  pub true_before : IsTrueOf at_entry.seen tree_before
  pub not_true_yet : ¬ IsTrueOf at_return.seen tree_before
  -- the first has seen at least what the other has, and is no later moment of it: the place to the left of node 0 was found empty by
  -- step 2 of the other, and by step 3 of the first
  pub taken_over : TakesOver at_return of_other.seen of_both
  pub later_for_one : IsLaterMoment at_return of_both
  pub more_for_other : HasSeenAtLeast of_other.seen of_both.seen
  pub not_later_for_other : ¬ IsLaterMoment of_other of_both
