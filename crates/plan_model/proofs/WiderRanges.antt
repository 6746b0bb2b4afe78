-- What a scene of either version may have, a scene of version 2 may have.
use Rattle.plan_model.proofs.Words.{◌≡◌, ◌≤◌, ◌&&◌, Bool, ℕ, true, false, eqb, length, List, refl, arith, ◌≤ℤ◌, nat_le, list_all, and_parts, and_from, leb-true}
use Rattle.plan_model.proofs.Words.{le-leb, ints, Goal, Point, Vertex, Marks, Drawn, Listed, LEAST_OBSTACLE_COORDINATE, LEAST_OBSTACLE_COORDINATE_OF_VERSION_2}
use Rattle.plan_model.proofs.Words.{MOST_CLEARANCE, MOST_GOALS, MOST_MARKS, MOST_OBSTACLE_COORDINATE, MOST_OBSTACLE_COORDINATE_OF_VERSION_2}
use Rattle.plan_model.proofs.Words.{MOST_OBSTACLE_CORNERS, MOST_OBSTACLES, MOST_SIDE, MOST_SIDE_OF_VERSION_2, MOST_STEP, MOST_STEP_OF_VERSION_2}
use Rattle.plan_model.proofs.Words.{is_strictly_convex, IsBetween, are_goals, are_obstacles, is_corner_between, is_goal, is_mark, is_obstacle, is_plan}
use Rattle.plan_model.proofs.Words.{may_be_informed, least_obstacle_coordinate, most_clearance, most_goals, most_obstacle_coordinate, most_side, most_step}
use Rattle.plan_model.proofs.Words.{cond_both}
use Rattle.plan_model.proofs.SceneBounds.{widened, list_all-wider}

-- ---- the limits

module _ (version : ℕ) where
  side-wider : most_side version ≤ most_side 2
  side-wider = cond_both (eqb version 1) MOST_SIDE MOST_SIDE_OF_VERSION_2 (λ n. n ≤ most_side 2) (λ e. omega arith) (λ e. omega arith)

  pub step-wider : most_step version ≤ most_step 2
  step-wider = cond_both (eqb version 1) MOST_STEP MOST_STEP_OF_VERSION_2 (λ n. n ≤ most_step 2) (λ e. omega arith) (λ e. omega arith)

  pub clearance-wider : most_clearance version ≤ most_clearance 2
  clearance-wider = cond_both (eqb version 1) 0 MOST_CLEARANCE (λ n. n ≤ most_clearance 2) (λ e. omega arith) (λ e. omega arith)

  count-wider : most_goals version ≤ most_goals 2
  count-wider = cond_both (eqb version 1) 1 MOST_GOALS (λ n. n ≤ most_goals 2) (λ e. omega arith) (λ e. omega arith)

  least-wider : least_obstacle_coordinate 2 ≤ℤ least_obstacle_coordinate version
  least-wider =
      cond_both (eqb version 1) LEAST_OBSTACLE_COORDINATE LEAST_OBSTACLE_COORDINATE_OF_VERSION_2 (λ z. least_obstacle_coordinate 2 ≤ℤ z)
      (λ e. omega (arith, ints)) (λ e. omega (arith, ints))

  most-wider : most_obstacle_coordinate version ≤ℤ most_obstacle_coordinate 2
  most-wider =
      cond_both (eqb version 1) MOST_OBSTACLE_COORDINATE MOST_OBSTACLE_COORDINATE_OF_VERSION_2 (λ z. z ≤ℤ most_obstacle_coordinate 2)
      (λ e. omega (arith, ints)) (λ e. omega (arith, ints))

  -- ---- the fields

  test-wider : (n m most : ℕ) → m ≤ most → nat_le n m ≡ true → nat_le n most ≡ true
  test-wider n m most wider h = le-leb n most (omega (arith, leb-true n m h, wider))

  pub IsBetween-wider : (low : ℕ) (p : Point) → IsBetween low (most_side version) p → IsBetween low (most_side 2) p
  IsBetween-wider low p h = record {
    left = h.left;
    right = omega (arith, h.right, side-wider);
    bottom = h.bottom;
    top = omega (arith, h.top, side-wider);
  }

  is_goal-wider : (goal : Goal) → is_goal version goal ≡ true → is_goal 2 goal ≡ true
  is_goal-wider goal h =
      let side = most_side version in
      let order = nat_le goal.low.x goal.high.x && nat_le goal.low.y goal.high.y in
      let parts = and_parts (nat_le goal.high.x side && nat_le goal.high.y side) order h in
      let high = and_parts (nat_le goal.high.x side) (nat_le goal.high.y side) parts.0 in
      and_from _ _
      (and_from _ _ (test-wider goal.high.x side (most_side 2) side-wider high.0) (test-wider goal.high.y side (most_side 2) side-wider high.1)) parts.1

  pub are_goals-wider : (goals : List Goal) → are_goals version goals ≡ true → are_goals 2 goals ≡ true
  are_goals-wider goals h =
      let count = length goals in
      let parts = and_parts (nat_le 1 count && nat_le count (most_goals version)) (list_all (is_goal version) goals) h in
      let few = and_parts (nat_le 1 count) (nat_le count (most_goals version)) parts.0 in
      and_from _ _ (and_from _ _ few.0 (test-wider count (most_goals version) (most_goals 2) count-wider few.1))
      (list_all-wider (is_goal version) (is_goal 2) goals is_goal-wider parts.1)

  is_obstacle-wider : (corners : List Vertex) → is_obstacle version corners ≡ true → is_obstacle 2 corners ≡ true
  is_obstacle-wider corners h =
      let low = least_obstacle_coordinate version in
      let high = most_obstacle_coordinate version in
      let parts = and_parts (nat_le (length corners) MOST_OBSTACLE_CORNERS && is_strictly_convex corners) (list_all (is_corner_between low high) corners) h in
      and_from _ _ parts.0
      (widened low high (least_obstacle_coordinate 2) (most_obstacle_coordinate 2) corners least-wider most-wider parts.1)

  pub are_obstacles-wider : (obstacles : List (List Vertex)) → are_obstacles version obstacles ≡ true → are_obstacles 2 obstacles ≡ true
  are_obstacles-wider obstacles h =
      let parts = and_parts (nat_le (length obstacles) MOST_OBSTACLES) (list_all (is_obstacle version) obstacles) h in
      and_from _ _ parts.0 (list_all-wider (is_obstacle version) (is_obstacle 2) obstacles is_obstacle-wider parts.1)

  pub may_be_informed-wider : (informed : Bool) → may_be_informed version informed ≡ true → may_be_informed 2 informed ≡ true
  may_be_informed-wider true h = refl
  may_be_informed-wider false h = refl

  is_mark-wider : (p : Point) → is_mark version p ≡ true → is_mark 2 p ≡ true
  is_mark-wider p h =
      let side = most_side version in
      let parts = and_parts (nat_le p.x side) (nat_le p.y side) h in
      and_from _ _ (test-wider p.x side (most_side 2) side-wider parts.0) (test-wider p.y side (most_side 2) side-wider parts.1)

  pub is_plan-wider : (plan : Marks) → is_plan version plan ≡ true → is_plan 2 plan ≡ true
  is_plan-wider (Drawn n) h = h
  is_plan-wider (Listed points) h =
      let parts = and_parts (nat_le (length points) MOST_MARKS) (list_all (is_mark version) points) h in
      and_from _ _ parts.0 (list_all-wider (is_mark version) (is_mark 2) points is_mark-wider parts.1)
