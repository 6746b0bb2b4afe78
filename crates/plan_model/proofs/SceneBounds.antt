-- What a scene of either version may have is within what is counted on: distances of its points can be taken, points are steered by its
-- step, and its obstacles go into Minkowski sums.
use Rattle.plan_model.proofs.Words.{◌≡◌, ◌<◌, ◌≤◌, ◌&&◌, Bool, ℕ, true, eqb, length, List, sym, arith, All, ℤ, ◌≤ℤ◌, int_le, nat_le, list_all, and_parts}
use Rattle.plan_model.proofs.Words.{and_from, leb-true, ints, All-weaker, AllPass-from_list_all, Goal, Point, Vertex, Scene, LEAST_OBSTACLE_COORDINATE}
use Rattle.plan_model.proofs.Words.{LEAST_OBSTACLE_COORDINATE_OF_VERSION_2, LEAST_SUMMAND_COORDINATE, MOST_CLEARANCE, MOST_COORDINATE, MOST_OBSTACLE_COORDINATE}
use Rattle.plan_model.proofs.Words.{MOST_OBSTACLE_COORDINATE_OF_VERSION_2, MOST_OBSTACLE_CORNERS, MOST_SIDE, MOST_SIDE_OF_VERSION_2, MOST_STEERING_STEP}
use Rattle.plan_model.proofs.Words.{MOST_STEP, MOST_STEP_OF_VERSION_2, MOST_SUMMAND_COORDINATE, IsBounded, IsBoundedBox, is_strictly_convex, IsInRoom}
use Rattle.plan_model.proofs.Words.{is_corner_between, is_goal, is_mark, is_obstacle, least_obstacle_coordinate, most_obstacle_coordinate, most_side}
use Rattle.plan_model.proofs.Words.{most_goals, most_step, cond_both, list_all-from_AllPass, most_clearance}

-- ---- the limits of either version

pub most_side-counted : (version : ℕ) → most_side version ≤ MOST_COORDINATE
most_side-counted version =
    cond_both (eqb version 1) MOST_SIDE MOST_SIDE_OF_VERSION_2 (λ n. n ≤ MOST_COORDINATE) (λ e. omega arith) (λ e. omega arith)

pub most_step-counted : (version : ℕ) → most_step version ≤ MOST_STEERING_STEP
most_step-counted version =
    cond_both (eqb version 1) MOST_STEP MOST_STEP_OF_VERSION_2 (λ n. n ≤ MOST_STEERING_STEP) (λ e. omega arith) (λ e. omega arith)

pub least_obstacle-counted : (version : ℕ) → LEAST_SUMMAND_COORDINATE ≤ℤ least_obstacle_coordinate version
least_obstacle-counted version =
    cond_both (eqb version 1) LEAST_OBSTACLE_COORDINATE LEAST_OBSTACLE_COORDINATE_OF_VERSION_2 (λ z. LEAST_SUMMAND_COORDINATE ≤ℤ z)
    (λ e. omega (arith, ints)) (λ e. omega (arith, ints))

pub most_obstacle-counted : (version : ℕ) → most_obstacle_coordinate version ≤ℤ MOST_SUMMAND_COORDINATE
most_obstacle-counted version =
    cond_both (eqb version 1) MOST_OBSTACLE_COORDINATE MOST_OBSTACLE_COORDINATE_OF_VERSION_2 (λ z. z ≤ℤ MOST_SUMMAND_COORDINATE)
    (λ e. omega (arith, ints)) (λ e. omega (arith, ints))

-- ---- points, steps and clearances

pub IsBounded-room : (scene : Scene) → IsBounded scene.room
IsBounded-room scene =
    let most = most_side-counted scene.version in
    record { right = omega (arith, scene.room_within.right, most); top = omega (arith, scene.room_within.top, most) }

pub IsBounded-in_room : (scene : Scene) (p : Point) → IsInRoom scene.room p → IsBounded p
IsBounded-in_room scene p h =
    let room = IsBounded-room scene in
    record { right = omega (arith, h.horizontal, room.right); top = omega (arith, h.vertical, room.top) }

pub IsBounded-scene_start : (scene : Scene) → IsBounded scene.start
IsBounded-scene_start scene =
    let most = most_side-counted scene.version in
    record { right = omega (arith, scene.start_within.right, most); top = omega (arith, scene.start_within.top, most) }

-- a mark that a scene may list
pub IsBounded-listed : (version : ℕ) (p : Point) → is_mark version p ≡ true → IsBounded p
IsBounded-listed version p h =
    let most = most_side-counted version in
    let parts = and_parts (nat_le p.x (most_side version)) (nat_le p.y (most_side version)) h in
    let right = leb-true p.x (most_side version) parts.0 in
    let top = leb-true p.y (most_side version) parts.1 in
    record { right = omega (arith, right, most); top = omega (arith, top, most) }

-- a goal that a scene may have
pub IsBoundedBox-goal : (version : ℕ) (goal : Goal) → is_goal version goal ≡ true → IsBoundedBox goal
IsBoundedBox-goal version goal h =
    let most = most_side-counted version in
    let parts = and_parts _ _ h in
    let high = and_parts _ _ parts.0 in
    let low = and_parts _ _ parts.1 in
    let right = leb-true goal.high.x (most_side version) high.0 in
    let top = leb-true goal.high.y (most_side version) high.1 in
    record {
      across = leb-true _ _ low.0;
      up = leb-true _ _ low.1;
      high = record { right = omega (arith, right, most); top = omega (arith, top, most) };
    }

-- each goal of a scene is so,
pub All-goals_bounded : (scene : Scene) → All IsBoundedBox scene.goals
All-goals_bounded scene =
    let parts = and_parts _ _ scene.goals_within in
    All-weaker (λ goal. is_goal scene.version goal ≡ true) IsBoundedBox (IsBoundedBox-goal scene.version) scene.goals
    (AllPass-from_list_all (is_goal scene.version) scene.goals parts.1)

-- and there is one at least
pub goals-some : (scene : Scene) → 0 < length scene.goals
goals-some scene =
    let parts = and_parts (nat_le 1 (length scene.goals) && nat_le (length scene.goals) (most_goals scene.version))
    (list_all (is_goal scene.version) scene.goals) scene.goals_within in
    let count = and_parts (nat_le 1 (length scene.goals)) (nat_le (length scene.goals) (most_goals scene.version)) parts.0 in
    omega (arith, leb-true 1 (length scene.goals) count.0)

pub step-steers : (scene : Scene) → scene.step ≤ MOST_STEERING_STEP
step-steers scene = omega (arith, scene.step_high, most_step-counted scene.version)

pub clearance-counted : (scene : Scene) → scene.clearance ≤ MOST_CLEARANCE
clearance-counted scene =
    let most : most_clearance scene.version ≤ MOST_CLEARANCE =
    cond_both (eqb scene.version 1) 0 MOST_CLEARANCE (λ n. n ≤ MOST_CLEARANCE) (λ e. omega arith) (λ e. omega arith) in
    omega (arith, scene.clearance_high, most)

-- ---- obstacles

-- corners between two numbers are between wider ones
widened_corner : (low high least most : ℤ) (v : Vertex) → least ≤ℤ low → high ≤ℤ most → is_corner_between low high v ≡ true
    → is_corner_between least most v ≡ true
widened_corner low high least most v f g h =
    let first = and_parts (int_le low v.x) (int_le v.x high && (int_le low v.y && int_le v.y high)) h in
    let second = and_parts (int_le v.x high) (int_le low v.y && int_le v.y high) first.1 in
    let third = and_parts (int_le low v.y) (int_le v.y high) second.1 in
    let left : low ≤ℤ v.x = omega (arith, ints, first.0) in
    let right : v.x ≤ℤ high = omega (arith, ints, second.0) in
    let bottom : low ≤ℤ v.y = omega (arith, ints, third.0) in
    let top : v.y ≤ℤ high = omega (arith, ints, third.1) in
    let a : int_le least v.x ≡ true = sym (omega (arith, ints)) in
    let b : int_le v.x most ≡ true = sym (omega (arith, ints)) in
    let c : int_le least v.y ≡ true = sym (omega (arith, ints)) in
    let d : int_le v.y most ≡ true = sym (omega (arith, ints)) in
    and_from _ _ a (and_from _ _ b (and_from _ _ c d))

-- what all members pass, they pass by a test that is no stricter
pub list_all-wider : {A : Type 0} (one other : A → Bool) (xs : List A) → ((x : A) → one x ≡ true → other x ≡ true) → list_all one xs ≡ true
    → list_all other xs ≡ true
list_all-wider one other xs wider h =
    list_all-from_AllPass other xs (All-weaker (λ x. one x ≡ true) (λ x. other x ≡ true) wider xs (AllPass-from_list_all one xs h))

pub widened : (low high least most : ℤ) (corners : List Vertex) → least ≤ℤ low → high ≤ℤ most → list_all (is_corner_between low high) corners ≡ true
    → list_all (is_corner_between least most) corners ≡ true
widened low high least most corners f g =
    list_all-wider (is_corner_between low high) (is_corner_between least most) corners (λ v. widened_corner low high least most v f g)

-- each corner of an obstacle is in the range of a summand's
pub corners-summands : (version : ℕ) (corners : List Vertex) → is_obstacle version corners ≡ true
    → list_all (is_corner_between LEAST_SUMMAND_COORDINATE MOST_SUMMAND_COORDINATE) corners ≡ true
corners-summands version corners h =
    let low = least_obstacle_coordinate version in
    let high = most_obstacle_coordinate version in
    let parts = and_parts (nat_le (length corners) MOST_OBSTACLE_CORNERS && is_strictly_convex corners) (list_all (is_corner_between low high) corners) h in
    widened low high LEAST_SUMMAND_COORDINATE MOST_SUMMAND_COORDINATE corners (least_obstacle-counted version) (most_obstacle-counted version) parts.1
