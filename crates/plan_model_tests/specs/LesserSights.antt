-- What has been seen at least, later moments and sights that are kept, and what differs from these in one thing; parents that two have seen, and seen
-- parents that are not lawful.
use Rattle.std.specs.Prelude.{ℕ, zero, Bool, true, false, Option, Some, None, List, [], ◌∷◌, suc, slice_get, slice_index_or}
use Rattle.plan_model_tests.specs.Terms.{AddsPoint, AgreeOnParents, AreSeenLawfully, FollowSeenWays, HasSeenAtLeast, IsLaterMoment, IsRooted, KeepsSight}
use Rattle.plan_model_tests.specs.Terms.{LinksAt, Point, Record, SeenTree, Sight, TreeGrows, at, at_entry, at_return, found_at_entry, found_at_return}
use Rattle.plan_model_tests.specs.Terms.{four_children, placed_by, three_children, three_points, tree_before, tree_now, trees_at_entry}
use Rattle.plan_model_tests.specs.GrownTrees.{before}
use Rattle.plan_model_tests.specs.UnlawfulRecords.{room_to}

-- ---- A node that is linked into a kd-tree of two nodes, and changes that are not that link or not that node alone.
-- the tree of three nodes before node 2 came
abbrev pub two_points : List (Option Point)
two_points = Some (at 5 5) ∷ Some (at 5 3) ∷ []

abbrev pub two_children : ℕ → Bool → Option ℕ
two_children zero true = Some 1
two_children _ _ = None

pub record LinkVectors : Type 0 where
  pub linked : LinksAt two_children three_children 1 false 2
  pub linked_before : ¬ LinksAt three_children three_children 1 false 2
  pub not_linked : ¬ LinksAt two_children two_children 1 false 2
  pub other_number : ¬ LinksAt two_children three_children 1 false 3
  pub other_side : ¬ LinksAt two_children three_children 1 true 2
  -- number 3 is linked too
  pub two_links : ¬ LinksAt two_children four_children 1 false 2
  pub added : AddsPoint two_points three_points 2 (at 9 2)
  pub present_before : ¬ AddsPoint three_points three_points 2 (at 9 2)
  pub not_added : ¬ AddsPoint two_points two_points 2 (at 9 2)
  pub added_elsewhere : ¬ AddsPoint two_points three_points 2 (at 9 3)
  pub other_node_gone : ¬ AddsPoint two_points (Some (at 5 5) ∷ None ∷ Some (at 9 2) ∷ []) 2 (at 9 2)
  pub other_node_too : ¬ AddsPoint two_points (Some (at 5 5) ∷ Some (at 5 3) ∷ Some (at 9 2) ∷ Some (at 1 1) ∷ []) 2 (at 9 2)

-- ---- lesser sights
-- children, points, parents with costs and records that were seen, one number of all counters, and the count
abbrev pub seen_by : (ℕ → Bool → Option ℕ) → List (Option Point) → (ℕ → Option (ℕ × ℕ)) → List Record → ℕ → ℕ → SeenTree
seen_by child points pairs records counter count =
    record { child = child; points = points; parent_and_cost = pairs; record_of = slice_get records; counter = λ strip. counter; count = count }

abbrev pub one_record : List Record
one_record = placed_by 0 0 0 0 512 1 ∷ []

-- what is seen at entry, and a record
abbrev pub known : SeenTree
known = seen_by three_children three_points trees_at_entry one_record 2 3

-- the same with node 2 below this parent at this cost, which is 1568 below node 1 at entry
abbrev pub trees_with : ℕ → ℕ → ℕ → Option (ℕ × ℕ)
trees_with parent cost (suc (suc zero)) = Some (parent, cost)
trees_with parent cost n = trees_at_entry n

pub record SeenAtLeastVectors : Type 0 where
  pub at_lower_cost : HasSeenAtLeast known (seen_by three_children three_points (trees_with 0 1567) one_record 2 3)
  pub child_missing : ¬ HasSeenAtLeast known (seen_by two_children three_points trees_at_entry one_record 2 3)
  pub point_missing : ¬ HasSeenAtLeast known (seen_by three_children two_points trees_at_entry one_record 2 3)
  pub other_parent : ¬ HasSeenAtLeast known (seen_by three_children three_points (trees_with 0 1568) one_record 2 3)
  pub higher_cost : ¬ HasSeenAtLeast known (seen_by three_children three_points (trees_with 1 1569) one_record 2 3)
  pub record_missing : ¬ HasSeenAtLeast known (seen_by three_children three_points trees_at_entry [] 2 3)
  pub lesser_counter : ¬ HasSeenAtLeast known (seen_by three_children three_points trees_at_entry one_record 1 3)
  pub lesser_count : ¬ HasSeenAtLeast known (seen_by three_children three_points trees_at_entry one_record 2 2)
  pub grown : TreeGrows tree_before tree_now
  -- node 2 was seen at two costs, below two parents; and at one cost
  pub agree : AgreeOnParents at_entry.seen at_return.seen
  pub disagree : ¬ AgreeOnParents known (seen_by three_children three_points (trees_with 0 1568) one_record 2 3)

-- the last step that found the place to the right of node 1 empty
abbrev pub found_with : ℕ → ℕ → Bool → ℕ
found_with step (suc zero) true = step
found_with step n side = found_at_entry n side

-- step 8 found the place to the right of node 0 empty, where node 1 was seen at entry
abbrev pub found_filled : ℕ → Bool → ℕ
found_filled zero true = 8
found_filled n side = found_at_entry n side

abbrev pub sight_of : SeenTree → ℕ → (ℕ → Bool → ℕ) → Sight
sight_of seen steps found = record { seen = seen; steps = steps; found_empty = found }

-- number 5, which no child is, has one
abbrev pub child_of_none : ℕ → Bool → Option ℕ
child_of_none (suc (suc (suc (suc (suc zero))))) true = Some 6
child_of_none n side = three_children n side

-- node 2 is also to the left of node 0
abbrev pub twice_a_child : ℕ → Bool → Option ℕ
twice_a_child zero false = Some 2
twice_a_child n side = three_children n side

-- node 0 is to the right of node 1
abbrev pub start_for_a_child : ℕ → Bool → Option ℕ
start_for_a_child (suc zero) true = Some 0
start_for_a_child n side = three_children n side

-- number 3 was seen below node 0
abbrev pub trees_with_3 : ℕ → Option (ℕ × ℕ)
trees_with_3 (suc (suc (suc zero))) = Some (0, 1280)
trees_with_3 n = trees_at_entry n

pub record LaterSightVectors : Type 0 where
  -- 6 steps were made at entry
  pub found_by_next_step : IsLaterMoment at_entry (sight_of at_return.seen 10 (found_with 7))
  pub found_by_earlier_step : ¬ IsLaterMoment at_entry (sight_of at_return.seen 10 (found_with 6))
  pub found_where_a_child_was : ¬ IsLaterMoment at_entry (sight_of at_return.seen 10 found_filled)
  pub fewer_steps : ¬ IsLaterMoment at_entry (sight_of at_return.seen 5 found_at_entry)
  pub less_seen : ¬ IsLaterMoment at_return (sight_of at_entry.seen 10 found_at_return)
  -- sights that are not kept
  pub found_by_no_step : ¬ KeepsSight (sight_of at_return.seen 7 found_at_return)
  pub no_start : ¬ IsRooted (seen_by (λ n side. None) [] (λ n. None) [] 0 0)
  pub parent_not_seen : ¬ IsRooted (seen_by child_of_none three_points trees_at_entry [] 2 3)
  pub point_of_none : ¬ IsRooted (seen_by three_children (Some (at 5 5) ∷ Some (at 5 3) ∷ Some (at 9 2) ∷ Some (at 9 8) ∷ []) trees_at_entry [] 2 3)
  pub pair_of_none : ¬ IsRooted (seen_by three_children three_points trees_with_3 [] 2 3)
  pub child_twice : ¬ FollowSeenWays (seen_by twice_a_child three_points trees_at_entry [] 2 3)
  pub start_is_a_child : ¬ FollowSeenWays (seen_by start_for_a_child three_points trees_at_entry [] 2 3)

-- parents with costs, by number, and nothing else
abbrev pub pairs_alone : List (Option (ℕ × ℕ)) → SeenTree
pairs_alone pairs = seen_by (λ n side. None) [] (λ n. slice_index_or pairs n None) [] 0 0

-- seen of a tree that keeps its first costs, in which node 1 was placed at 12803 below the start, and at 12800 might have been
pub record SeenParentVectors : Type 0 where
  pub absent_node : ¬ AreSeenLawfully (room_to 50 (at 0 0)) (pairs_alone (Some (0, 0) ∷ None ∷ None ∷ Some (0, 0) ∷ [])) before
  pub below_its_edge : ¬ AreSeenLawfully (room_to 50 (at 0 0)) (pairs_alone (Some (0, 0) ∷ Some (0, 12799) ∷ [])) before
  pub above_first_cost : ¬ AreSeenLawfully (room_to 50 (at 0 0)) (pairs_alone (Some (0, 0) ∷ Some (0, 12804) ∷ [])) before
  pub start_below_a_node : ¬ AreSeenLawfully (room_to 50 (at 0 0)) (pairs_alone (Some (1, 0) ∷ [])) before
