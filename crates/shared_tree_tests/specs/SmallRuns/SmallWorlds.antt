-- Words of a small shared run with the views of two passes, and worlds that differ from a lawful one in one thing.
use Rattle.std.specs.Prelude.{ℕ, ◌+◌, ◌^◌, Option, Some, None, List, [], ◌∷◌, ◌++◌, replicate, slice_set}
use Rattle.shared_tree_tests.specs.Terms.{Counted, Half, Hand, IsWorld, Linked, Member, Note, Pointed, Posted, SharedRun, Stage, Treed, View, at, best_word}
use Rattle.shared_tree_tests.specs.Terms.{empty_room, new_hand, no_best, placed_by, point_word, record_word, tree_word, words_of_run}

-- ---- the run
-- a run of two workers from limit 0: a point body that starts at (5, 5) in an empty room, and one mark at (8, 9), whose edge costs 1280
abbrev pub small_run : SharedRun
small_run =
    record { space = empty_room (at 100 100); start = at 5 5; step = 50; gamma = 50; goals = []; strips = 1; marks = at 8 9 ∷ []; workers = 2; opening = 0 }

-- marks are skipped by a goal at the mark, where node 1 is placed
abbrev pub goal_run : SharedRun
goal_run = record small_run { goals = record { low = at 8 9; high = at 8 9 } ∷ [] }

-- ---- its words
-- the words of a node: its point, its left and its right child, its tree word and its first word
abbrev pub node_by : ℕ → ℕ → ℕ → ℕ → List ℕ
node_by point right tree first = point ∷ 0 ∷ right ∷ tree ∷ first ∷ []

-- the count, the best word, the counter, the words of nodes 0 and 1, and of the record of mark 0
abbrev pub table_with : ℕ → ℕ → ℕ → List ℕ → List ℕ → ℕ → List ℕ
table_with best count counter start node entry = count ∷ best ∷ counter ∷ start ++ node ++ entry ∷ []

-- no goal node is known
abbrev pub table : ℕ → ℕ → List ℕ → List ℕ → ℕ → List ℕ
table count counter start node entry = table_with no_best count counter start node entry

-- the start, with this node to its right, and 0 for none
abbrev pub start_above : ℕ → List ℕ
start_above right = node_by (point_word (at 5 5)) right (tree_word 0 0) (tree_word 0 0)

-- node 1 at the mark, below the start
abbrev pub mark_node : List ℕ
mark_node = node_by (point_word (at 8 9)) 0 (tree_word 0 1280) (tree_word 0 1280)

-- no word of a node is written
abbrev pub no_node : List ℕ
no_node = replicate 5 0

-- nothing is claimed
abbrev pub start_table : List ℕ
start_table = table 1 0 (start_above 0) no_node 0

-- the mark is claimed
abbrev pub claimed_table : List ℕ
claimed_table = table 1 1 (start_above 0) no_node 0

-- it is linked, and not counted
abbrev pub linked_table : List ℕ
linked_table = table 1 1 (start_above 1) mark_node 0

-- it is recorded by this worker
abbrev pub recorded_table : ℕ → List ℕ
recorded_table worker = table 2 1 (start_above 1) mark_node (record_word (placed_by worker 0 0 0 1280 1))

-- ---- views
-- the mark in hand at this stage, steered from the start, with this parent and this cost
abbrev pub hand_at : Stage → ℕ → ℕ → Hand
hand_at stage parent cost = record { mark = 0; stage = stage; best = None; nearest = 0; point = at 8 9; parent = parent; cost = cost }

-- no steps
abbrev pub never : List ℕ
never = replicate 14 0

abbrev pub view_with : List Member → ℕ → Option Hand → List ℕ → List ℕ → List Note → View
view_with crew most hand seen found_zero notes = record {
  run = small_run;
  crew = crew;
  most = most;
  hand = hand;
  seen = seen;
  best = no_best;
  took = [];
  steps = 3;
  looked = never;
  found_zero = found_zero;
  notes = notes;
}

abbrev pub worker_at : ℕ → ℕ → List Member
worker_at worker turn = record { worker = worker; turn = turn } ∷ []

-- worker 0 has the mark in hand, and made three steps
abbrev pub handling : Hand → List ℕ → View
handling hand seen = view_with (worker_at 0 0) 1 (Some hand) seen never []

-- worker 1 has nothing in hand
abbrev pub idle : List ℕ → View
idle seen = view_with (worker_at 1 0) 0 None seen never []

-- the view is of the run with a goal, and saw this best word last
abbrev pub with_goal : ℕ → View → View
with_goal best view = record view { run = goal_run; best = best }

-- the hand has taken this best word
abbrev pub took_best : ℕ → Hand
took_best best = record (new_hand 0) { best = Some best }

-- ---- worlds
abbrev pub AreLawful : List ℕ → View → View → Type 0
AreLawful items one other = IsWorld small_run (words_of_run small_run items) (one ∷ other ∷ [])

-- the mark is claimed by worker 0; a world that both see as it is
abbrev pub claimer : View
claimer = handling (new_hand 0) claimed_table

-- all is as it is but the words of the run, which both see
abbrev pub AreLawfulWords : List ℕ → Type 0
AreLawfulWords items = AreLawful items (handling (new_hand 0) items) (idle items)

-- the hand of worker 0 holds this, and both see the words
abbrev pub AreLawfulInHand : Hand → List ℕ → Type 0
AreLawfulInHand hand items = AreLawful items (handling hand items) (idle items)

-- worker 0 filled the place to the right of node 0 when the views had made so many steps
abbrev pub filled_at : List ℕ → List Note
filled_at steps = record { place = 5; word = 1; steps = steps } ∷ []

-- Worker 0 has this in hand, and left this word at a place when the other had made two steps. The other looked there by its third step, and sees
-- these words.
abbrev pub AreLawfulLooks : List ℕ → Hand → ℕ → ℕ → List ℕ → Type 0
AreLawfulLooks items hand place word seen =
    AreLawful items (record (handling hand items) { notes = record { place = place; word = word; steps = 3 ∷ 2 ∷ [] } ∷ [] })
    (record (idle seen) { looked = slice_set never place 3 })

-- the step that found this place empty
abbrev pub found_right : ℕ → List ℕ
found_right step = 0 ∷ 0 ∷ 0 ∷ 0 ∷ 0 ∷ step ∷ replicate 8 0

-- the best word is this, and worker 0 recorded node 1, which is a goal node, as placed at the cost 1280
abbrev pub recorded_with : ℕ → List ℕ
recorded_with best = table_with best 2 1 (start_above 1) mark_node (record_word (placed_by 0 0 0 0 1280 1))

-- node 1 is linked, and the best word is this
abbrev pub linked_with : ℕ → List ℕ
linked_with best = table_with best 1 1 (start_above 1) mark_node 0

-- a world of the run with a goal, where the views of both workers saw these best words last
abbrev pub AreLawfulBests : List ℕ → ℕ → ℕ → Type 0
AreLawfulBests items best other = IsWorld goal_run (words_of_run goal_run items)
    (with_goal best (view_with (worker_at 0 1) 1 None items never []) ∷ with_goal other (idle items) ∷ [])

-- so it is where worker 0 has this in hand, and neither saw a best word
abbrev pub AreLawfulTaken : Hand → List ℕ → ℕ → Type 0
AreLawfulTaken hand items best =
    IsWorld goal_run (words_of_run goal_run items) (with_goal best (handling hand items) ∷ with_goal no_best (idle items) ∷ [])

pub record LawfulWorldVectors : Type 0 where
  pub nothing_claimed : AreLawful start_table (view_with (worker_at 0 0) 0 None start_table never []) (idle start_table)

pub record UnlawfulWorldVectors : Type 0 where
  -- marks
  pub counter_above_quota : ¬ AreLawful claimed_table (view_with (worker_at 0 0) 0 (Some (new_hand 0)) claimed_table never []) (idle claimed_table)
  pub in_two_hands : ¬ AreLawful claimed_table claimer (view_with (worker_at 1 0) 0 (Some (new_hand 0)) claimed_table never [])
  pub in_no_hand : ¬ AreLawful claimed_table (view_with (worker_at 0 0) 1 None claimed_table never []) (idle claimed_table)
  pub not_claimed : ¬ AreLawfulWords (table 1 0 (start_above 0) no_node 0)
  pub limit_past_marks : ¬ AreLawful claimed_table claimer (view_with (worker_at 1 0) 2 None claimed_table never [])
  pub record_not_packed : ¬ AreLawfulWords (table 1 1 (start_above 0) no_node 5)
  pub recorded_in_hand : ¬ AreLawful (recorded_table 0) (handling (hand_at Counted 0 1280) (recorded_table 0)) (idle (recorded_table 0))
  -- links
  pub start_elsewhere : ¬ AreLawfulWords (table 1 1 (node_by (point_word (at 6 5)) 0 (tree_word 0 0) (tree_word 0 0)) no_node 0)
  pub child_of_no_node : ¬ AreLawfulWords (table 1 1 (start_above 0) (node_by 0 2 0 0) 0)
  pub linked_too_early : ¬ AreLawfulInHand (hand_at Treed 0 1280) linked_table
  pub not_linked : ¬ AreLawfulInHand (hand_at Linked 0 1280) (table 1 1 (start_above 0) mark_node 0)
  pub counted_too_early : ¬ AreLawfulInHand (hand_at Linked 0 1280) (table 2 1 (start_above 1) mark_node 0)
  pub not_counted : ¬ AreLawfulInHand (hand_at Counted 0 1280) linked_table
  -- the words of the node in hand
  pub point_not_written : ¬ AreLawfulInHand (hand_at Pointed 0 0) claimed_table
  pub point_elsewhere : ¬ AreLawfulInHand (hand_at Pointed 0 0) (table 1 1 (start_above 0) (node_by (point_word (at 9 8)) 0 0 0) 0)
  pub point_too_early : ¬ AreLawfulWords (table 1 1 (start_above 0) (node_by (point_word (at 8 9)) 0 0 0) 0)
  pub first_not_written : ¬ AreLawfulInHand (hand_at Half 0 1280) (table 1 1 (start_above 0) (node_by (point_word (at 8 9)) 0 0 0) 0)
  pub first_too_early : ¬ AreLawfulInHand (hand_at Pointed 0 0) (table 1 1 (start_above 0) (node_by (point_word (at 8 9)) 0 0 (tree_word 0 1280)) 0)
  pub tree_not_written : ¬ AreLawfulInHand (hand_at Treed 0 1280) (table 1 1 (start_above 0) (node_by (point_word (at 8 9)) 0 0 (tree_word 0 1280)) 0)
  pub tree_too_early : ¬ AreLawfulInHand (hand_at Half 0 1280) (table 1 1 (start_above 0) mark_node 0)
  pub cost_below_the_edge :
      ¬ AreLawfulInHand (hand_at Half 0 1279) (table 1 1 (start_above 0) (node_by (point_word (at 8 9)) 0 0 (tree_word 0 1279)) 0)
  pub cost_above_the_edge :
      ¬ AreLawfulInHand (hand_at Half 0 1281) (table 1 1 (start_above 0) (node_by (point_word (at 8 9)) 0 0 (tree_word 0 1281)) 0)
  pub below_itself : ¬ AreLawfulInHand (hand_at Half 1 1280) (table 1 1 (start_above 0) (node_by (point_word (at 8 9)) 0 0 (tree_word 1 1280)) 0)
  -- parents and costs
  pub start_costs : ¬ AreLawfulWords (table 1 1 (node_by (point_word (at 5 5)) 0 (tree_word 0 5) (tree_word 0 0)) no_node 0)
  pub start_below_another : ¬ AreLawfulWords (table 1 1 (node_by (point_word (at 5 5)) 0 (tree_word 1 0) (tree_word 0 0)) no_node 0)
  pub other_bit_set : ¬ AreLawfulWords (table 1 1 (node_by (point_word (at 5 5)) 0 (tree_word 0 0 + 2 ^ 62) (tree_word 0 0)) no_node 0)
  pub no_first_word_of_start : ¬ AreLawfulWords (table 1 1 (node_by (point_word (at 5 5)) 0 (tree_word 0 0) 0) no_node 0)
  pub costs_less_than_its_edge : ¬ AreLawfulInHand (hand_at Linked 0 1280)
      (table 1 1 (start_above 1) (node_by (point_word (at 8 9)) 0 (tree_word 0 1279) (tree_word 0 1280)) 0)
  pub costs_more_than_at_first : ¬ AreLawfulInHand (hand_at Linked 0 1280)
      (table 1 1 (start_above 1) (node_by (point_word (at 8 9)) 0 (tree_word 0 1281) (tree_word 0 1280)) 0)
  -- turns and shares
  pub turn_ahead : ¬ AreLawful claimed_table claimer (view_with (worker_at 1 1) 0 None claimed_table never [])
  pub worker_twice : ¬ AreLawful claimed_table claimer (view_with (worker_at 0 0) 0 None claimed_table never [])
  pub worker_of_no_run : ¬ AreLawful claimed_table claimer (view_with (worker_at 2 0) 0 None claimed_table never [])
  pub share_lost : ¬ AreLawful claimed_table claimer (view_with [] 0 None claimed_table never [])
  pub share_too_many : ¬ AreLawful claimed_table claimer (view_with (worker_at 1 0 ++ worker_at 2 0) 0 None claimed_table never [])
  pub hand_without_share : ¬ AreLawful claimed_table (view_with [] 1 (Some (new_hand 0)) claimed_table never [])
      (view_with (worker_at 0 0 ++ worker_at 1 0) 1 None claimed_table never [])
  -- what was seen
  pub saw_a_greater_count : ¬ AreLawful claimed_table claimer (idle (table 2 1 (start_above 0) no_node 0))
  pub saw_no_such_child : ¬ AreLawful claimed_table claimer (idle (table 1 1 (start_above 1) no_node 0))
  pub saw_no_start : ¬ AreLawful claimed_table claimer (idle (table 1 1 (node_by 0 0 (tree_word 0 0) (tree_word 0 0)) no_node 0))
  pub saw_start_at_a_cost :
      ¬ AreLawful claimed_table claimer (idle (table 1 1 (node_by (point_word (at 5 5)) 0 (tree_word 0 5) (tree_word 0 0)) no_node 0))
  pub took_more_than_it_sees : ¬ AreLawful claimed_table claimer (record (idle claimed_table) { took = table 1 2 (start_above 0) no_node 0 })
  pub counter_seen_by_none :
      ¬ AreLawful claimed_table (handling (new_hand 0) (table 1 0 (start_above 0) no_node 0)) (idle (table 1 0 (start_above 0) no_node 0))
  pub looked_later : ¬ AreLawful claimed_table claimer (record (idle claimed_table) { looked = 4 ∷ replicate 13 0 })
  pub found_zero_later : ¬ AreLawful claimed_table claimer (view_with (worker_at 1 0) 0 None claimed_table (found_right 4) [])
  pub too_few_words : ¬ AreLawful claimed_table claimer (record (idle claimed_table) { looked = replicate 13 0 })
  -- empty places, and records
  pub found_empty_when_filled :
      ¬ AreLawful linked_table (view_with (worker_at 0 0) 1 (Some (hand_at Linked 0 1280)) linked_table never (filled_at (3 ∷ 2 ∷ [])))
      (view_with (worker_at 1 0) 0 None linked_table (found_right 3) [])
  pub noted_too_many_steps : ¬ AreLawful linked_table
      (view_with (worker_at 0 0) 1 (Some (hand_at Linked 0 1280)) linked_table never (filled_at (3 ∷ 4 ∷ []))) (idle linked_table)
  -- stale looks, and a change that nobody notes
  pub saw_a_stale_counter : ¬ AreLawfulLooks claimed_table (new_hand 0) 2 1 start_table
  pub saw_a_stale_count : ¬ AreLawfulLooks (table 2 1 (start_above 1) mark_node 0) (hand_at Counted 0 1280) 0 2 linked_table
  pub saw_no_child_where_one_was : ¬ AreLawfulLooks linked_table (hand_at Linked 0 1280) 5 1 claimed_table
  pub saw_a_stale_tree_word : ¬ AreLawfulLooks linked_table (hand_at Linked 0 1280) 11 (tree_word 0 1280)
      (table 1 1 (start_above 1) (node_by (point_word (at 8 9)) 0 (tree_word 0 1281) (tree_word 0 1280)) 0)
  pub saw_a_stale_best : ¬ AreLawfulLooks (linked_with (best_word 1280 1)) (hand_at Linked 0 1280) 1 (best_word 1280 1) linked_table
  pub claim_not_noted : ¬ AreLawful claimed_table claimer (idle start_table)
  pub recorded_by_no_worker : ¬ AreLawful (recorded_table 2) (view_with (worker_at 0 0) 1 None (recorded_table 2) never []) (idle (recorded_table 2))
  -- the best word
  pub best_of_no_goal_node : ¬ AreLawfulBests (recorded_with (best_word 0 0)) no_best no_best
  pub best_of_no_node : ¬ AreLawfulTaken (new_hand 0) (table_with (best_word 1280 1) 1 1 (start_above 0) no_node 0) no_best
  pub best_below_the_cost : ¬ AreLawfulBests (recorded_with (best_word 1279 1)) no_best no_best
  pub recorded_goal_node_is_no_best : ¬ AreLawfulBests (recorded_with no_best) no_best no_best
  pub best_above_a_recorded_goal_node : ¬ AreLawfulBests (recorded_with (best_word 1281 1)) no_best no_best
  pub saw_a_best_that_is_not : ¬ AreLawfulTaken (hand_at Linked 0 1280) (linked_with no_best) (best_word 1280 1)
  pub saw_no_goal_node_as_best : ¬ AreLawfulTaken (hand_at Linked 0 1280) (linked_with (best_word 1280 1)) (best_word 1280 0)
  pub best_seen_by_none : ¬ AreLawfulTaken (hand_at Linked 0 1280) (linked_with (best_word 1280 1)) no_best
  pub saw_recorded_goal_node_and_no_best : ¬ AreLawfulBests (recorded_with (best_word 1280 1)) (best_word 1280 1) no_best
  pub took_no_goal_node : ¬ AreLawfulTaken (took_best (best_word 0 0)) claimed_table no_best
  pub posted_and_saw_no_best : ¬ AreLawfulTaken (hand_at Posted 0 1280) (table_with (best_word 1280 1) 2 1 (start_above 1) mark_node 0) no_best
