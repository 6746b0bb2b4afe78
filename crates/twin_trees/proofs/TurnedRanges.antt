-- A scene may be planned from its other end: the middle of its first goal may be a start, and its start a goal.
use Rattle.twin_trees.proofs.Words.{◌≡◌, ◌≤◌, Bool, true, false, ◌&&◌, length, arith, refl, le-leb, leb-true, IsTrue, nat_le, ◌==◌, if◌then◌else◌, list_all}
use Rattle.twin_trees.proofs.Words.{and_from, and_parts, goals-some, true_at, MOST_GOALS, Scene, IsBetween, are_goals, is_goal, most_goals, most_side, box_of}
use Rattle.twin_trees.proofs.Words.{first_goal, goal_middle, start_boxes}

-- the first goal of a scene is one
is_goal-first : (scene : Scene) → is_goal scene.version (first_goal scene) ≡ true
is_goal-first scene =
    let parts = and_parts (nat_le 1 (length scene.goals) && nat_le (length scene.goals) (most_goals scene.version))
    (list_all (is_goal scene.version) scene.goals) scene.goals_within in
    true_at (is_goal scene.version) scene.goals 0 (box_of (record { x = 0; y = 0 })) parts.1 (goals-some scene)

-- its middle is within the greatest side of a room
pub IsBetween-middle : (scene : Scene) → IsBetween 0 (most_side scene.version) (goal_middle scene)
IsBetween-middle scene =
    let side = most_side scene.version in
    let goal = first_goal scene in
    let all = and_parts (nat_le goal.high.x side && nat_le goal.high.y side) (nat_le goal.low.x goal.high.x && nat_le goal.low.y goal.high.y)
    (is_goal-first scene) in
    let high = and_parts (nat_le goal.high.x side) (nat_le goal.high.y side) all.0 in
    let low = and_parts (nat_le goal.low.x goal.high.x) (nat_le goal.low.y goal.high.y) all.1 in
    record {
      left = omega arith;
      right = omega (arith, leb-true goal.high.x side high.0, leb-true goal.low.x goal.high.x low.0);
      bottom = omega arith;
      top = omega (arith, leb-true goal.high.y side high.1, leb-true goal.low.y goal.high.y low.1);
    }

-- one goal is not too many in either version
one_by : (first : Bool) → 1 ≤ (if first then 1 else MOST_GOALS)
one_by true = omega arith
one_by false = omega arith

-- the box of the start is a goal
pub are_goals-start : (scene : Scene) → IsTrue (are_goals scene.version (start_boxes scene))
are_goals-start scene =
    let side = most_side scene.version in
    let start = scene.start in
    let few : nat_le 1 (most_goals scene.version) ≡ true = le-leb 1 (most_goals scene.version) (one_by (scene.version == 1)) in
    let high = and_from (nat_le start.x side) (nat_le start.y side) (le-leb start.x side scene.start_within.right)
    (le-leb start.y side scene.start_within.top) in
    let low = and_from (nat_le start.x start.x) (nat_le start.y start.y) (le-leb start.x start.x (omega arith)) (le-leb start.y start.y (omega arith)) in
    let goal : is_goal scene.version (box_of start) ≡ true =
    and_from (nat_le start.x side && nat_le start.y side) (nat_le start.x start.x && nat_le start.y start.y) high low in
    and_from (nat_le 1 1 && nat_le 1 (most_goals scene.version)) (is_goal scene.version (box_of start) && true)
    (and_from (nat_le 1 1) (nat_le 1 (most_goals scene.version)) refl few) (and_from (is_goal scene.version (box_of start)) true goal refl)
