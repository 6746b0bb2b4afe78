-- The parts of a scene, from numbers that may stand after its keys.
use Rattle.plan_model.proofs.Words.{◌≡◌, ℕ, zero, suc, ◌+◌, ◌*◌, ◌≤◌, ◌&&◌, ◌||◌, ◌⊎◌, not, Bool, true, false, cond, eqb, ltb, leb, ℤ, pos, negsuc, int_le}
use Rattle.plan_model.proofs.Words.{unsigned_abs, List, [], ◌∷◌, length, map, All, refl, inl, inr, arith, list_all, and_parts, and_from, or_cases, or_left}
use Rattle.plan_model.proofs.Words.{or_right, leb-true, le-leb, eqb-true, ltb-false, length-map, All-head, All-tail, is_strictly_convex, IsBetween, by_version}
use Rattle.plan_model.proofs.Words.{is_corner_between, are_goals, is_body, is_goal, is_obstacle, is_mark, is_plan, may_be_informed, least_obstacle_coordinate}
use Rattle.plan_model.proofs.Words.{most_clearance, most_goals, most_obstacle_coordinate, most_side, most_step, LEAST_BODY_COORDINATE, LEAST_SIDE, LEAST_STEP}
use Rattle.plan_model.proofs.Words.{MOST_BODY_COORDINATE, MOST_BODY_CORNERS, MOST_GAMMA, MOST_MARKS, MOST_OBSTACLE_CORNERS, MOST_SEED, MOST_STRIPS, are_between}
use Rattle.plan_model.proofs.Words.{corners_from, is_ordered, MayStand, point_from, goal_from, number_or, body_from, plan_from}
use Rattle.std.proofs.lemmas.Bool.{eq-eqb}
use Rattle.plan_model.specs.declared.text_terms.Key.TheVariants as keys

-- ---- one number

-- a number from low to high, both of which are natural numbers
pub record IsWithin (low high n : ℕ) : Type 0 where
  pub above : low ≤ n
  pub below : n ≤ high

within : (low high : ℕ) (z : ℤ) → (int_le (pos low) z && int_le z (pos high)) ≡ true → IsWithin low high (unsigned_abs z)
within low high (pos n) h =
    let parts = and_parts (leb low n) (leb n high) h in
    record { above = leb-true low n parts.0; below = leb-true n high parts.1 }
within low high (negsuc n) h = absurd (cc)

-- natural numbers are in the order of their integers
in_order : (a b : ℤ) → int_le (pos 0) a ≡ true → int_le a b ≡ true → unsigned_abs a ≤ unsigned_abs b
in_order (pos m) (pos n) h e = leb-true m n e
in_order (pos m) (negsuc n) h e = absurd (cc)
in_order (negsuc m) b h e = absurd (cc)

single : (low high default : ℕ) (zs : List ℤ) → eqb (length zs) 1 ≡ true → are_between (pos low) (pos high) zs ≡ true → IsWithin low high (number_or default zs)
single low high default [] count h = absurd (cc)
single low high default (z ∷ zs) count h =
    within low high z (and_parts (int_le (pos low) z && int_le z (pos high)) (are_between (pos low) (pos high) zs) h).0

-- ---- points

pair : (low high : ℕ) (zs : List ℤ) → 2 ≤ length zs → are_between (pos low) (pos high) zs ≡ true → IsBetween low high (point_from zs)
pair low high [] long h = absurd (omega arith)
pair low high (x ∷ []) long h = absurd (omega arith)
pair low high (x ∷ y ∷ zs) long h =
    let first = and_parts (int_le (pos low) x && int_le x (pos high)) (are_between (pos low) (pos high) (y ∷ zs)) h in
    let second = and_parts (int_le (pos low) y && int_le y (pos high)) (are_between (pos low) (pos high) zs) first.1 in
    let horizontal = within low high x first.0 in
    let vertical = within low high y second.0 in
    record {
      left = horizontal.above;
      right = horizontal.below;
      bottom = vertical.above;
      top = vertical.below;
    }

point : (low high : ℕ) (zs : List ℤ) → eqb (length zs) 2 ≡ true → are_between (pos low) (pos high) zs ≡ true → IsBetween low high (point_from zs)
point low high zs count h = pair low high zs (omega (arith, eqb-true (length zs) 2 count)) h

pub room-within : (version : ℕ) (zs : List ℤ) → MayStand version keys.Room zs → IsBetween LEAST_SIDE (most_side version) (point_from zs)
room-within version zs h = point LEAST_SIDE (most_side version) zs h.count h.ranged

pub start-within : (version : ℕ) (zs : List ℤ) → MayStand version keys.Start zs → IsBetween 0 (most_side version) (point_from zs)
start-within version zs h = point 0 (most_side version) zs h.count h.ranged

pub mark-within : (version : ℕ) (zs : List ℤ) → MayStand version keys.Mark zs → is_mark version (point_from zs) ≡ true
mark-within version zs h =
    let p = point_from zs in
    let most = most_side version in
    let between = point 0 most zs h.count h.ranged in
    and_from (leb p.x most) (leb p.y most) (le-leb p.x most between.right) (le-leb p.y most between.top)

goal_by : (most : ℕ) (zs : List ℤ) → eqb (length zs) 4 ≡ true → (is_ordered keys.Goal zs && are_between (pos 0) (pos most) zs) ≡ true
    → ((leb (goal_from zs).high.x most && leb (goal_from zs).high.y most)
    && (leb (goal_from zs).low.x (goal_from zs).high.x && leb (goal_from zs).low.y (goal_from zs).high.y)) ≡ true
goal_by most [] count h = absurd (cc)
goal_by most (a ∷ []) count h = absurd (cc)
goal_by most (a ∷ b ∷ []) count h = absurd (cc)
goal_by most (a ∷ b ∷ c ∷ []) count h = absurd (cc)
goal_by most (a ∷ b ∷ c ∷ d ∷ zs) count h =
    let parts = and_parts (int_le a c && int_le b d) (are_between (pos 0) (pos most) (a ∷ b ∷ c ∷ d ∷ zs)) h in
    let order = and_parts (int_le a c) (int_le b d) parts.0 in
    let first = and_parts (int_le (pos 0) a && int_le a (pos most)) (are_between (pos 0) (pos most) (b ∷ c ∷ d ∷ zs)) parts.1 in
    let second = and_parts (int_le (pos 0) b && int_le b (pos most)) (are_between (pos 0) (pos most) (c ∷ d ∷ zs)) first.1 in
    let high = pair 0 most (c ∷ d ∷ zs) (omega arith) second.1 in
    let horizontal = in_order a c (and_parts (int_le (pos 0) a) (int_le a (pos most)) first.0).0 order.0 in
    let vertical = in_order b d (and_parts (int_le (pos 0) b) (int_le b (pos most)) second.0).0 order.1 in
    and_from (leb (unsigned_abs c) most && leb (unsigned_abs d) most) (leb (unsigned_abs a) (unsigned_abs c) && leb (unsigned_abs b) (unsigned_abs d))
    (and_from (leb (unsigned_abs c) most) (leb (unsigned_abs d) most) (le-leb (unsigned_abs c) most high.right) (le-leb (unsigned_abs d) most high.top))
    (and_from (leb (unsigned_abs a) (unsigned_abs c)) (leb (unsigned_abs b) (unsigned_abs d)) (le-leb (unsigned_abs a) (unsigned_abs c) horizontal)
    (le-leb (unsigned_abs b) (unsigned_abs d) vertical))

pub goal-within : (version : ℕ) (zs : List ℤ) → MayStand version keys.Goal zs → is_goal version (goal_from zs) ≡ true
goal-within version zs h = goal_by (most_side version) zs h.count h.ranged

-- ---- numbers

pub step-within : (version : ℕ) (zs : List ℤ) → MayStand version keys.Step zs → IsWithin LEAST_STEP (most_step version) (number_or 0 zs)
step-within version zs h = single LEAST_STEP (most_step version) 0 zs h.count h.ranged

pub clearance-within : (version : ℕ) (zs : List ℤ) → MayStand version keys.Clearance zs → number_or 0 zs ≤ most_clearance version
clearance-within version zs h = (single 0 (most_clearance version) 0 zs h.count h.ranged).below

pub gamma-within : (version : ℕ) (zs : List ℤ) → MayStand version keys.Gamma zs → number_or 0 zs ≤ MOST_GAMMA
gamma-within version zs h = (single 0 MOST_GAMMA 0 zs h.count h.ranged).below

pub seed-within : (version : ℕ) (zs : List ℤ) → MayStand version keys.Seed zs → number_or 0 zs ≤ MOST_SEED
seed-within version zs h = (single 0 MOST_SEED 0 zs h.count h.ranged).below

pub strips-within : (version : ℕ) (zs : List ℤ) → MayStand version keys.Strips zs → IsWithin 1 MOST_STRIPS (number_or 1 zs)
strips-within version zs h = single 1 MOST_STRIPS 1 zs h.count h.ranged

pub informed-within : (version : ℕ) (zs : List ℤ) → MayStand version keys.Informed zs → number_or 0 zs ≤ by_version version 0 1
informed-within version zs h = (single 0 (by_version version 0 1) 0 zs h.count h.ranged).below

pub marks-within : (version : ℕ) (zs : List ℤ) → MayStand version keys.Marks zs → number_or 0 zs ≤ MOST_MARKS
marks-within version zs h = (single 0 MOST_MARKS 0 zs h.count h.ranged).below

-- a number that may be above 0 in version 2 alone
informed_by : (first : Bool) (n : ℕ) → n ≤ cond first 0 1 → (not (eqb n 1) || not first) ≡ true
informed_by true zero h = refl
informed_by true (suc n) h = absurd (omega arith)
informed_by false n h = or_right (not (eqb n 1)) true refl

pub informed-by_number : (version n : ℕ) → n ≤ by_version version 0 1 → may_be_informed version (eqb n 1) ≡ true
informed-by_number version n h = informed_by (eqb version 1) n h

-- ---- polygons

-- two coordinates for each corner
record AreCorners (zs : List ℤ) : Type 0 where
  most : 2 * length (corners_from zs) ≤ length zs
  least : length zs ≤ 2 * length (corners_from zs) + 1

corners : (zs : List ℤ) → AreCorners zs
corners [] = record { most = omega arith; least = omega arith }
corners (x ∷ []) = record { most = omega arith; least = omega arith }
corners (x ∷ y ∷ zs) =
    let rest = corners zs in
    record { most = omega arith; least = omega arith }

-- corners whose numbers are in a range are in it
pub corners-within : (low high : ℤ) (zs : List ℤ) → are_between low high zs ≡ true → list_all (is_corner_between low high) (corners_from zs) ≡ true
corners-within low high [] h = refl
corners-within low high (x ∷ []) h = refl
corners-within low high (x ∷ y ∷ zs) h =
    let first = and_parts (int_le low x && int_le x high) (are_between low high (y ∷ zs)) h in
    let second = and_parts (int_le low y && int_le y high) (are_between low high zs) first.1 in
    let horizontal = and_parts (int_le low x) (int_le x high) first.0 in
    let vertical = and_parts (int_le low y) (int_le y high) second.0 in
    rw (horizontal.0, horizontal.1, vertical.0, vertical.1, corners-within low high zs second.1) refl

-- one corner, or up to 16 that are strictly convex
body-shape : (n count : ℕ) (convex : Bool) → 2 * n ≤ count → count ≤ 2 * n + 1 → ltb (2 * MOST_BODY_CORNERS) count ≡ false
    → (eqb count 2 ≡ true) ⊎ (convex ≡ true) → (eqb n 1 || (leb n MOST_BODY_CORNERS && convex)) ≡ true
body-shape n count convex most least few (inl two) =
    or_left (eqb n 1) (leb n MOST_BODY_CORNERS && convex) (eq-eqb n 1 (omega (arith, eqb-true count 2 two)))
body-shape n count convex most least few (inr h) =
    or_right (eqb n 1) (leb n MOST_BODY_CORNERS && convex)
    (and_from (leb n MOST_BODY_CORNERS) convex (le-leb n MOST_BODY_CORNERS (omega (arith, ltb-false (2 * MOST_BODY_CORNERS) count few))) h)

pub polygon-of_body : (version : ℕ) (zs : List ℤ) → MayStand version keys.Body zs → is_body (corners_from zs) ≡ true
polygon-of_body version zs h =
    let vs = corners_from zs in
    let many = corners zs in
    let ranged = h.ranged in
    let shape = body-shape (length vs) (length zs) (is_strictly_convex vs) many.most many.least h.few
    (or_cases (eqb (length zs) 2) (is_strictly_convex vs) h.corners) in
    and_from (eqb (length vs) 1 || (leb (length vs) MOST_BODY_CORNERS && is_strictly_convex vs))
    (list_all (is_corner_between LEAST_BODY_COORDINATE MOST_BODY_COORDINATE) vs) shape (corners-within LEAST_BODY_COORDINATE MOST_BODY_COORDINATE zs ranged)

pub polygon-of_obstacle : (version : ℕ) (zs : List ℤ) → MayStand version keys.Obstacle zs → is_obstacle version (corners_from zs) ≡ true
polygon-of_obstacle version zs h =
    let low = least_obstacle_coordinate version in
    let high = most_obstacle_coordinate version in
    let vs = corners_from zs in
    let many = corners zs in
    let ranged = h.ranged in
    let few : length zs ≤ 2 * MOST_OBSTACLE_CORNERS = ltb-false (2 * MOST_OBSTACLE_CORNERS) (length zs) h.few in
    let small : leb (length vs) MOST_OBSTACLE_CORNERS ≡ true = le-leb (length vs) MOST_OBSTACLE_CORNERS (omega arith) in
    let shape : (leb (length vs) MOST_OBSTACLE_CORNERS && is_strictly_convex vs)
    ≡ true = and_from (leb (length vs) MOST_OBSTACLE_CORNERS) (is_strictly_convex vs) small h.corners in
    and_from (leb (length vs) MOST_OBSTACLE_CORNERS && is_strictly_convex vs)
    (list_all (is_corner_between low high) vs) shape (corners-within low high zs ranged)

-- ---- lists of parts

-- parts that numbers give pass a test, if each does whose numbers may stand
list_all-given : {A : Type 0} (P : List ℤ → Type 0) (part : List ℤ → A) (test : A → Bool) (lists : List (List ℤ))
    → ((zs : List ℤ) → P zs → test (part zs) ≡ true) → All P lists → list_all test (map part lists) ≡ true
list_all-given P part test [] each h = refl
list_all-given P part test (zs ∷ lists) each h =
    and_from (test (part zs)) (list_all test (map part lists)) (each zs (All-head P zs lists h))
    (list_all-given P part test lists each (All-tail P zs lists h))

pub obstacles-within : (version : ℕ) (lists : List (List ℤ)) → All (MayStand version keys.Obstacle) lists
    → list_all (is_obstacle version) (map corners_from lists) ≡ true
obstacles-within version lists =
    list_all-given (MayStand version keys.Obstacle) corners_from (is_obstacle version) lists (polygon-of_obstacle version)

pub goals-within : (version : ℕ) (lists : List (List ℤ)) → All (MayStand version keys.Goal) lists → 1 ≤ length lists → length lists ≤ most_goals version
    → are_goals version (map goal_from lists) ≡ true
goals-within version lists h some few =
    let count = length (map goal_from lists) in
    let same : length (map goal_from lists) ≡ length lists = length-map lists goal_from in
    let one = le-leb 1 count (omega (arith, same, some)) in
    let most = le-leb count (most_goals version) (omega (arith, same, few)) in
    and_from (leb 1 count && leb count (most_goals version)) (list_all (is_goal version) (map goal_from lists))
    (and_from (leb 1 count) (leb count (most_goals version)) one most)
    (list_all-given (MayStand version keys.Goal) goal_from (is_goal version) lists (goal-within version) h)

pub body-within : (version : ℕ) (lists : List (List ℤ)) → All (MayStand version keys.Body) lists → is_body (body_from lists) ≡ true
body-within version [] h = refl
body-within version (zs ∷ lists) h =
    polygon-of_body version zs (All-head (MayStand version keys.Body) zs lists h)

pub plan-within : (version : ℕ) (drawn listed : List (List ℤ)) → All (MayStand version keys.Marks) drawn → All (MayStand version keys.Mark) listed
    → length listed ≤ MOST_MARKS → is_plan version (plan_from drawn listed) ≡ true
plan-within version [] listed h g few =
    and_from (leb (length (map point_from listed)) MOST_MARKS) (list_all (is_mark version) (map point_from listed))
    (le-leb (length (map point_from listed)) MOST_MARKS (omega (arith, length-map listed point_from)))
    (list_all-given (MayStand version keys.Mark) point_from (is_mark version) listed (mark-within version) g)
plan-within version (zs ∷ drawn) listed h g few =
    le-leb (number_or 0 zs) MOST_MARKS (marks-within version zs (All-head (MayStand version keys.Marks) zs drawn h))
