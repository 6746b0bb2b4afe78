-- The limits as numbers; lines after the version at the limits of the grammar, and just beyond them.
use Rattle.std.specs.Prelude.{◌≡◌, ℕ, pos, neg_ℤ, true, false, Option, Some, None, List, [], codes, replicate, ◌∷◌}
use Rattle.plan_model.specs.Terms.{Drawn, Goal, Kind, LEAST_BODY_COORDINATE, LEAST_CORNERS, LEAST_CORNER_COORDINATE, LEAST_OBSTACLE_COORDINATE}
use Rattle.plan_model.specs.Terms.{LEAST_OBSTACLE_COORDINATE_OF_VERSION_2, LEAST_SIDE, LEAST_STEP, LEAST_STRIPS, LEAST_SUMMAND_COORDINATE, Listed}
use Rattle.plan_model.specs.Terms.{MOST_BODY_COORDINATE, MOST_BODY_CORNERS, MOST_CLEARANCE, MOST_COORDINATE, MOST_CORNER_COORDINATE, MOST_GAMMA, MOST_GOALS}
use Rattle.plan_model.specs.Terms.{MOST_MARKS, MOST_NODES, MOST_OBSTACLES, MOST_OBSTACLE_COORDINATE, MOST_OBSTACLE_COORDINATE_OF_VERSION_2}
use Rattle.plan_model.specs.Terms.{MOST_OBSTACLE_CORNERS, MOST_SEED, MOST_SIDE, MOST_SIDE_OF_VERSION_2, MOST_STEERING_STEP, MOST_STEP, MOST_STEP_OF_VERSION_2}
use Rattle.plan_model.specs.Terms.{MOST_STRIPS, MOST_SUMMAND_COORDINATE, MOST_TEXT_BYTES, MOST_WORKERS}
use Rattle.plan_model.specs.Texts.TextLines.{words_of}
use Rattle.plan_model.specs.Texts.Keys.{most_lines}
use Rattle.plan_model.specs.Texts.LineChecks.{given_by, fault_of_statement, is_repeated, is_too_many}
use Rattle.plan_model.specs.Texts.SceneGrammar.{is_supported}
use Rattle.plan_model.specs.Scenes.Limits.{is_body, is_obstacle, are_obstacles, is_goal, are_goals, may_be_informed, is_mark, is_plan}
use Rattle.plan_model.specs.Vectors.Geometry.{at, corner, corner_below}
use Rattle.plan_model.specs.declared.text_terms.Key.TheVariants as keys
use Rattle.plan_model.specs.declared.text_terms.Kind.TheVariants as kinds

-- each limit as a number, so that a constant cannot change without its value here
pub record ConstantVectors : Type 0 where
  pub text_bytes : MOST_TEXT_BYTES ≡ 16777216
  pub marks : MOST_MARKS ≡ 262143
  pub nodes : MOST_NODES ≡ 262144
  pub workers : MOST_WORKERS ≡ 64
  pub fewest_strips : LEAST_STRIPS ≡ 1
  pub strips : MOST_STRIPS ≡ 64
  pub obstacles : MOST_OBSTACLES ≡ 1024
  pub fewest_corners : LEAST_CORNERS ≡ 3
  pub obstacle_corners : MOST_OBSTACLE_CORNERS ≡ 64
  pub body_corners : MOST_BODY_CORNERS ≡ 16
  pub least_side : LEAST_SIDE ≡ 1
  pub side : MOST_SIDE ≡ 65535
  pub side_of_version_2 : MOST_SIDE_OF_VERSION_2 ≡ 1048575
  pub least_step : LEAST_STEP ≡ 4
  pub step : MOST_STEP ≡ 4096
  pub step_of_version_2 : MOST_STEP_OF_VERSION_2 ≡ 65536
  pub goals : MOST_GOALS ≡ 16
  pub clearance : MOST_CLEARANCE ≡ 4096
  pub gamma : MOST_GAMMA ≡ 16777215
  pub seed : MOST_SEED ≡ 18446744073709551615
  pub least_body_coordinate : LEAST_BODY_COORDINATE ≡ neg_ℤ (pos 4096)
  pub body_coordinate : MOST_BODY_COORDINATE ≡ pos 4096
  pub least_obstacle_coordinate : LEAST_OBSTACLE_COORDINATE ≡ neg_ℤ (pos 131072)
  pub obstacle_coordinate : MOST_OBSTACLE_COORDINATE ≡ pos 131071
  pub least_obstacle_coordinate_of_version_2 : LEAST_OBSTACLE_COORDINATE_OF_VERSION_2 ≡ neg_ℤ (pos 2097152)
  pub obstacle_coordinate_of_version_2 : MOST_OBSTACLE_COORDINATE_OF_VERSION_2 ≡ pos 2097151
  pub least_corner_coordinate : LEAST_CORNER_COORDINATE ≡ neg_ℤ (pos 4194304)
  pub corner_coordinate : MOST_CORNER_COORDINATE ≡ pos 4194304
  pub least_summand_coordinate : LEAST_SUMMAND_COORDINATE ≡ neg_ℤ (pos 2097152)
  pub summand_coordinate : MOST_SUMMAND_COORDINATE ≡ pos 2097152
  pub coordinate : MOST_COORDINATE ≡ 1048575
  pub steering_step : MOST_STEERING_STEP ≡ 65536

-- the fault of a line right after the version 1
abbrev pub fault_alone : List ℕ → Option Kind
fault_alone line = fault_of_statement is_supported 1 (given_by []) (words_of line)

-- the fault of a line right after the version 2, if every key is supported
abbrev pub fault_in_second : List ℕ → Option Kind
fault_in_second line = fault_of_statement (λ key. true) 2 (given_by []) (words_of line)

-- the fault of a line of a key and so many words `x` right after the version 1
abbrev pub fault_of_xs : List ℕ → ℕ → Option Kind
fault_of_xs key n = fault_of_statement is_supported 1 (given_by []) (key ∷ replicate n (codes "x"))

pub record LimitVectors : Type 0 where
  -- the least and the greatest numbers of each key, and the numbers just beyond
  pub room_least : fault_alone (codes "room 1 1") ≡ None
  pub room_most : fault_alone (codes "room 65535 65535") ≡ None
  pub room_none : fault_alone (codes "room 1 0") ≡ Some kinds.Range
  pub room_beyond : fault_alone (codes "room 65536 1") ≡ Some kinds.Range
  pub body_corner : fault_alone (codes "body -4096 4096") ≡ None
  pub body_below : fault_alone (codes "body -4097 0") ≡ Some kinds.Range
  pub body_beyond : fault_alone (codes "body 0 4097") ≡ Some kinds.Range
  pub obstacle_widest : fault_alone (codes "obstacle -131072 0 131071 0 0 131071") ≡ None
  pub obstacle_below : fault_alone (codes "obstacle -131073 0 9 0 0 9") ≡ Some kinds.Range
  pub obstacle_beyond : fault_alone (codes "obstacle 0 0 131072 0 0 9") ≡ Some kinds.Range
  pub start_least : fault_alone (codes "start 0 0") ≡ None
  pub start_most : fault_alone (codes "start 65535 65535") ≡ None
  pub start_below : fault_alone (codes "start -1 0") ≡ Some kinds.Range
  pub start_beyond : fault_alone (codes "start 0 65536") ≡ Some kinds.Range
  pub goal_point : fault_alone (codes "goal 5 5 5 5") ≡ None
  pub goal_reversed : fault_alone (codes "goal 5 5 4 5") ≡ Some kinds.Range
  pub goal_upside_down : fault_alone (codes "goal 5 5 5 4") ≡ Some kinds.Range
  pub step_least : fault_alone (codes "step 4") ≡ None
  pub step_most : fault_alone (codes "step 4096") ≡ None
  pub step_below : fault_alone (codes "step 3") ≡ Some kinds.Range
  pub step_beyond : fault_alone (codes "step 4097") ≡ Some kinds.Range
  pub gamma_most : fault_alone (codes "gamma 16777215") ≡ None
  pub gamma_beyond : fault_alone (codes "gamma 16777216") ≡ Some kinds.Range
  pub seed_most : fault_alone (codes "seed 18446744073709551615") ≡ None
  pub seed_beyond : fault_alone (codes "seed 18446744073709551616") ≡ Some kinds.Range
  pub strips_least : fault_alone (codes "strips 1") ≡ None
  pub strips_most : fault_alone (codes "strips 64") ≡ None
  pub strips_none : fault_alone (codes "strips 0") ≡ Some kinds.Range
  pub strips_beyond : fault_alone (codes "strips 65") ≡ Some kinds.Range
  pub marks_none : fault_alone (codes "marks 0") ≡ None
  pub marks_most : fault_alone (codes "marks 262143") ≡ None
  pub marks_beyond : fault_alone (codes "marks 262144") ≡ Some kinds.Range
  pub mark_most : fault_alone (codes "mark 65535 65535") ≡ None
  pub mark_beyond : fault_alone (codes "mark 65536 0") ≡ Some kinds.Range
  -- how many words: those of a body are of one corner, or of three at least
  pub key_alone : fault_alone (codes "step") ≡ Some kinds.Words
  pub two_corners : fault_alone (codes "body 0 0 1 0") ≡ Some kinds.Words
  pub half_a_corner : fault_alone (codes "body 0 0 4 0 4 4 0") ≡ Some kinds.Words
  pub obstacle_of_a_point : fault_alone (codes "obstacle 0 0") ≡ Some kinds.Words
  -- the first check that fails gives the kind
  pub words_before_number : fault_alone (codes "step x 4") ≡ Some kinds.Words
  pub number_before_range : fault_alone (codes "start -1 x") ≡ Some kinds.Number
  pub range_before_corners : fault_alone (codes "obstacle 0 0 0 9 9 131072") ≡ Some kinds.Range
  pub long_number : fault_alone (codes "step 99999999999999999999999") ≡ Some kinds.Range
  -- 17 corners of a body, and 65 of an obstacle; that the words are no numbers is checked later
  pub corners_of_a_body : fault_of_xs (codes "body") 34 ≡ Some kinds.Many
  pub fewer_corners_of_a_body : fault_of_xs (codes "body") 32 ≡ Some kinds.Number
  pub corners_of_an_obstacle : fault_of_xs (codes "obstacle") 130 ≡ Some kinds.Many
  pub fewer_corners_of_an_obstacle : fault_of_xs (codes "obstacle") 128 ≡ Some kinds.Number
  -- the obstacle after the last that there may be
  pub obstacles : is_too_many 1 (λ key. replicate 1024 []) keys.Obstacle 6 ≡ true
  pub fewer_obstacles : is_too_many 1 (λ key. replicate 1023 []) keys.Obstacle 6 ≡ false
  -- as many marks as there may be
  pub marks : most_lines 1 keys.Mark ≡ 262143
  -- the keys of version 2, and the ranges that are wider there
  pub clearance_first : fault_alone (codes "clearance 1") ≡ Some kinds.Key
  pub informed_first : fault_alone (codes "informed 1") ≡ Some kinds.Key
  pub clearance_none : fault_in_second (codes "clearance 0") ≡ None
  pub clearance_most : fault_in_second (codes "clearance 4096") ≡ None
  pub clearance_beyond : fault_in_second (codes "clearance 4097") ≡ Some kinds.Range
  pub clearance_words : fault_in_second (codes "clearance") ≡ Some kinds.Words
  pub informed_not : fault_in_second (codes "informed 0") ≡ None
  pub informed : fault_in_second (codes "informed 1") ≡ None
  pub informed_beyond : fault_in_second (codes "informed 2") ≡ Some kinds.Range
  pub wide_room_most : fault_in_second (codes "room 1048575 1048575") ≡ None
  pub wide_room_beyond : fault_in_second (codes "room 1048576 1") ≡ Some kinds.Range
  pub wide_obstacle : fault_in_second (codes "obstacle -2097152 0 2097151 0 0 2097151") ≡ None
  pub wide_obstacle_below : fault_in_second (codes "obstacle -2097153 0 9 0 0 9") ≡ Some kinds.Range
  pub wide_obstacle_beyond : fault_in_second (codes "obstacle 0 0 2097152 0 0 9") ≡ Some kinds.Range
  pub wide_start : fault_in_second (codes "start 1048575 1048575") ≡ None
  pub wide_start_beyond : fault_in_second (codes "start 0 1048576") ≡ Some kinds.Range
  pub wide_goal : fault_in_second (codes "goal 1048575 0 1048575 1048575") ≡ None
  pub wide_goal_reversed : fault_in_second (codes "goal 5 5 4 5") ≡ Some kinds.Range
  pub wide_goal_beyond : fault_in_second (codes "goal 0 0 1048576 0") ≡ Some kinds.Range
  pub long_step : fault_in_second (codes "step 65536") ≡ None
  pub long_step_beyond : fault_in_second (codes "step 65537") ≡ Some kinds.Range
  pub wide_mark : fault_in_second (codes "mark 1048575 1048575") ≡ None
  pub wide_mark_beyond : fault_in_second (codes "mark 0 1048576") ≡ Some kinds.Range
  -- in version 1 a second goal is a repeated key, and in version 2 the 17th is one too many
  pub second_goal_first : is_repeated 1 (λ key. replicate 1 []) keys.Goal ≡ true
  pub second_goal : is_repeated 2 (λ key. replicate 1 []) keys.Goal ≡ false
  pub goals : is_too_many 2 (λ key. replicate 16 []) keys.Goal 4 ≡ true
  pub goals_repeated : is_repeated 2 (λ key. replicate 16 []) keys.Goal ≡ false
  pub fewer_goals : is_too_many 2 (λ key. replicate 15 []) keys.Goal 4 ≡ false

-- ---- Bodies, obstacles, goals and plans at the limits of a scene's fields, and just beyond them, in either version.
-- a goal of either version
abbrev pub the_goal : Goal
the_goal = record { low = at 1 1; high = at 2 2 }

pub record RangeVectors : Type 0 where
  pub body_point : is_body (corner 0 0 ∷ []) ≡ true
  pub body_none : is_body [] ≡ false
  pub body_of_two : is_body (corner 0 0 ∷ corner 4 0 ∷ []) ≡ false
  pub body_most : is_body (corner 4096 4096 ∷ []) ≡ true
  pub body_beyond : is_body (corner 0 4097 ∷ []) ≡ false
  pub body_least : is_body (corner_below 4096 4096 ∷ []) ≡ true
  pub body_below : is_body (corner_below 4097 0 ∷ []) ≡ false
  pub obstacle_point : is_obstacle 1 (corner 0 0 ∷ []) ≡ false
  pub obstacle_most : is_obstacle 1 (corner 0 0 ∷ corner 131071 0 ∷ corner 0 131071 ∷ []) ≡ true
  pub obstacle_beyond : is_obstacle 1 (corner 0 0 ∷ corner 131072 0 ∷ corner 0 9 ∷ []) ≡ false
  pub obstacle_least : is_obstacle 1 (corner_below 131072 131072 ∷ corner 0 0 ∷ corner_below 131072 0 ∷ []) ≡ true
  pub obstacle_below : is_obstacle 1 (corner_below 131073 0 ∷ corner 9 0 ∷ corner 0 9 ∷ []) ≡ false
  pub no_obstacle : are_obstacles 1 [] ≡ true
  pub mark_most : is_mark 1 (at 65535 65535) ≡ true
  pub mark_beyond : is_mark 1 (at 65536 0) ≡ false
  pub no_listed_mark : is_plan 1 (Listed []) ≡ true
  pub no_drawn_mark : is_plan 1 (Drawn 0) ≡ true
  pub drawn_most : is_plan 1 (Drawn 262143) ≡ true
  pub drawn_beyond : is_plan 1 (Drawn 262144) ≡ false
  pub wide_obstacle_most : is_obstacle 2 (corner 0 0 ∷ corner 2097151 0 ∷ corner 0 2097151 ∷ []) ≡ true
  pub wide_obstacle_beyond : is_obstacle 2 (corner 0 0 ∷ corner 2097152 0 ∷ corner 0 9 ∷ []) ≡ false
  pub wide_obstacle_least : is_obstacle 2 (corner_below 2097152 2097152 ∷ corner 0 0 ∷ corner_below 2097152 0 ∷ []) ≡ true
  pub wide_obstacle_below : is_obstacle 2 (corner_below 2097153 0 ∷ corner 9 0 ∷ corner 0 9 ∷ []) ≡ false
  pub goal_most : is_goal 1 (record { low = at 65535 0; high = at 65535 65535 }) ≡ true
  pub goal_beyond : is_goal 1 (record { low = at 0 0; high = at 0 65536 }) ≡ false
  pub goal_reversed : is_goal 1 (record { low = at 5 5; high = at 4 5 }) ≡ false
  pub wide_goal_most : is_goal 2 (record { low = at 0 0; high = at 1048575 1048575 }) ≡ true
  pub wide_goal_beyond : is_goal 2 (record { low = at 0 0; high = at 1048576 0 }) ≡ false
  pub no_goal : are_goals 2 [] ≡ false
  pub one_goal : are_goals 1 (replicate 1 the_goal) ≡ true
  pub second_goal : are_goals 1 (replicate 2 the_goal) ≡ false
  pub goals_most : are_goals 2 (replicate 16 the_goal) ≡ true
  pub goals_beyond : are_goals 2 (replicate 17 the_goal) ≡ false
  pub informed_first : may_be_informed 1 true ≡ false
  pub not_informed_first : may_be_informed 1 false ≡ true
  pub informed_second : may_be_informed 2 true ≡ true
  pub wide_mark_most : is_mark 2 (at 1048575 1048575) ≡ true
  pub wide_mark_beyond : is_mark 2 (at 0 1048576) ≡ false
