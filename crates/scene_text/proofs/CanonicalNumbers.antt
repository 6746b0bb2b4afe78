-- The numbers of a scene's parts may stand after their keys, and give the parts back.
use Rattle.scene_text.proofs.Words.{◌≡◌, ℕ, ◌*◌, ◌%◌, ◌≤◌, Bool, true, false, cond, not, ◌&&◌, ◌||◌, eqb, leb, ℤ, pos, int_le, List, [], ◌∷◌, length, ◌⊎◌}
use Rattle.scene_text.proofs.Words.{inl, inr, refl, ap, ◌∙◌, arith, list_all, nat_tests, and_parts, leb-true, Point, Vertex, Goal, is_strictly_convex}
use Rattle.scene_text.proofs.Words.{IsBetween, by_version, is_body, is_goal, is_obstacle, is_mark, least_obstacle_coordinate, most_clearance}
use Rattle.scene_text.proofs.Words.{most_obstacle_coordinate, most_side, most_step, LEAST_BODY_COORDINATE, LEAST_CORNERS, LEAST_SIDE, LEAST_STEP}
use Rattle.scene_text.proofs.Words.{MOST_BODY_COORDINATE, MOST_BODY_CORNERS, MOST_GAMMA, MOST_MARKS, MOST_OBSTACLE_CORNERS, MOST_SEED, MOST_STRIPS}
use Rattle.scene_text.proofs.Words.{MayStand, corners_from, point_numbers, goal_numbers, corner_numbers}
use Rattle.plan_model.specs.declared.text_terms.Key.TheVariants as keys

-- ---- one number

single : (low high n : ℕ) → low ≤ n → n ≤ high → ((leb low n && leb n high) && true) ≡ true
single low high n l h =
    let a : leb low n ≡ true = grind (arith, nat_tests) in
    let b : leb n high ≡ true = grind (arith, nat_tests) in
    rw (a, b) refl

pub fit-step : (version n : ℕ) → LEAST_STEP ≤ n → n ≤ most_step version → MayStand version keys.Step (pos n ∷ [])
fit-step version n low high = record { count = refl; few = refl; ranged = single LEAST_STEP (most_step version) n low high; corners = refl }

pub fit-clearance : (version n : ℕ) → n ≤ most_clearance version → MayStand version keys.Clearance (pos n ∷ [])
fit-clearance version n high = record { count = refl; few = refl; ranged = single 0 (most_clearance version) n (omega arith) high; corners = refl }

pub fit-gamma : (version n : ℕ) → n ≤ MOST_GAMMA → MayStand version keys.Gamma (pos n ∷ [])
fit-gamma version n high = record { count = refl; few = refl; ranged = single 0 MOST_GAMMA n (omega arith) high; corners = refl }

pub fit-seed : (version n : ℕ) → n ≤ MOST_SEED → MayStand version keys.Seed (pos n ∷ [])
fit-seed version n high = record { count = refl; few = refl; ranged = single 0 MOST_SEED n (omega arith) high; corners = refl }

pub fit-strips : (version n : ℕ) → 1 ≤ n → n ≤ MOST_STRIPS → MayStand version keys.Strips (pos n ∷ [])
fit-strips version n low high = record { count = refl; few = refl; ranged = single 1 MOST_STRIPS n low high; corners = refl }

-- in a version of which some scene is informed
informed_by : (first : Bool) → not first ≡ true → 1 ≤ cond first 0 1
informed_by true h = absurd (cc)
informed_by false h = omega arith

pub fit-informed : (version : ℕ) → not (eqb version 1) ≡ true → MayStand version keys.Informed (pos 1 ∷ [])
fit-informed version second = record {
  count = refl;
  few = refl;
  ranged = single 0 (by_version version 0 1) 1 (omega arith) (informed_by (eqb version 1) second);
  corners = refl;
}

pub fit-marks : (version n : ℕ) → leb n MOST_MARKS ≡ true → MayStand version keys.Marks (pos n ∷ [])
fit-marks version n high = record { count = refl; few = refl; ranged = single 0 MOST_MARKS n (omega arith) (grind (arith, nat_tests)); corners = refl }

-- ---- points

pair : (low high x y : ℕ) → low ≤ x → x ≤ high → low ≤ y → y ≤ high → ((leb low x && leb x high) && ((leb low y && leb y high) && true)) ≡ true
pair low high x y a b c d =
    let p : leb low x ≡ true = grind (arith, nat_tests) in
    let q : leb x high ≡ true = grind (arith, nat_tests) in
    let r : leb low y ≡ true = grind (arith, nat_tests) in
    let s : leb y high ≡ true = grind (arith, nat_tests) in
    rw (p, q, r, s) refl

pub fit-room : (version : ℕ) (p : Point) → IsBetween LEAST_SIDE (most_side version) p → MayStand version keys.Room (point_numbers p)
fit-room version p h = record { count = refl; few = refl; ranged = pair LEAST_SIDE (most_side version) p.x p.y h.left h.right h.bottom h.top; corners = refl }

pub fit-start : (version : ℕ) (p : Point) → IsBetween 0 (most_side version) p → MayStand version keys.Start (point_numbers p)
fit-start version p h = record { count = refl; few = refl; ranged = pair 0 (most_side version) p.x p.y h.left h.right h.bottom h.top; corners = refl }

pub fit-mark : (version : ℕ) (p : Point) → is_mark version p ≡ true → MayStand version keys.Mark (point_numbers p)
fit-mark version p h =
    let most = most_side version in
    let parts = and_parts (leb p.x most) (leb p.y most) h in
    record {
      count = refl;
      few = refl;
      ranged = pair 0 most p.x p.y (omega arith) (leb-true p.x most parts.0) (omega arith) (leb-true p.y most parts.1);
      corners = refl;
    }

-- both pairs in range, and in order
ordered : (most a b c d : ℕ) → c ≤ most → d ≤ most → a ≤ c → b ≤ d
    → ((leb a c && leb b d) && ((leb 0 a && leb a most)
    && ((leb 0 b && leb b most) && ((leb 0 c && leb c most) && ((leb 0 d && leb d most) && true))))) ≡ true
ordered most a b c d right top horizontal vertical =
    let bound : (n : ℕ) → n ≤ most → leb n most ≡ true = λ n h. grind (arith, nat_tests) in
    let none : (n : ℕ) → leb 0 n ≡ true = λ n. grind (arith, nat_tests) in
    let p : leb a c ≡ true = grind (arith, nat_tests) in
    let q : leb b d ≡ true = grind (arith, nat_tests) in
    rw (bound a (omega arith), bound b (omega arith), bound c right, bound d top, none a, none b, none c, none d, p, q) refl

pub fit-goal : (version : ℕ) (goal : Goal) → is_goal version goal ≡ true → MayStand version keys.Goal (goal_numbers goal)
fit-goal version goal h =
    let most = most_side version in
    let parts = and_parts (leb goal.high.x most && leb goal.high.y most) (leb goal.low.x goal.high.x && leb goal.low.y goal.high.y) h in
    let most_parts = and_parts (leb goal.high.x most) (leb goal.high.y most) parts.0 in
    let order = and_parts (leb goal.low.x goal.high.x) (leb goal.low.y goal.high.y) parts.1 in
    record {
      count = refl;
      few = refl;
      ranged = ordered most goal.low.x goal.low.y goal.high.x goal.high.y (leb-true goal.high.x most most_parts.0) (leb-true goal.high.y most most_parts.1)
          (leb-true goal.low.x goal.high.x order.0) (leb-true goal.low.y goal.high.y order.1);
      corners = refl;
    }

-- ---- polygons

-- the corners are given back
pub corners_from-numbers : (corners : List Vertex) → corners_from (corner_numbers corners) ≡ corners
corners_from-numbers [] = refl
corners_from-numbers (corner ∷ corners) = ap (λ rest. corner ∷ rest) (corners_from-numbers corners)

pub length-corner_numbers : (corners : List Vertex) → length (corner_numbers corners) ≡ 2 * length corners
length-corner_numbers [] = refl
length-corner_numbers (corner ∷ corners) = let rest = length-corner_numbers corners in omega arith

corners-ranged : (low high : ℤ) (corners : List Vertex)
    → list_all (λ v. int_le low v.x && (int_le v.x high && (int_le low v.y && int_le v.y high))) corners ≡ true
    → list_all (λ z. int_le low z && int_le z high) (corner_numbers corners) ≡ true
corners-ranged low high [] h = refl
corners-ranged low high (v ∷ corners) h =
    let parts = and_parts (int_le low v.x && (int_le v.x high && (int_le low v.y && int_le v.y high)))
    (list_all (λ u. int_le low u.x && (int_le u.x high && (int_le low u.y && int_le u.y high))) corners) h in
    let left = and_parts (int_le low v.x) (int_le v.x high && (int_le low v.y && int_le v.y high)) parts.0 in
    let right = and_parts (int_le v.x high) (int_le low v.y && int_le v.y high) left.1 in
    let up = and_parts (int_le low v.y) (int_le v.y high) right.1 in
    rw (left.0, right.0, up.0, up.1, corners-ranged low high corners parts.1) refl

-- ---- how many words a polygon has

words-many : (n count : ℕ) → count ≡ 2 * n → LEAST_CORNERS ≤ n → (eqb (count % 2) 0 && leb (2 * LEAST_CORNERS) count) ≡ true
words-many n count e many =
    let even : eqb (count % 2) 0 ≡ true = grind (arith, nat_tests) in
    let long : leb (2 * LEAST_CORNERS) count ≡ true = grind (arith, nat_tests) in
    rw (even, long) refl

or-true : (b : Bool) → (b || true) ≡ true
or-true true = refl
or-true false = refl

-- what is known of so many corners: they are one, or many and convex
shape : (one convex : Bool) (n : ℕ) → (one || (leb n MOST_BODY_CORNERS && convex)) ≡ true → eqb n 1 ≡ one
    → (n ≡ 1) ⊎ ((n ≤ MOST_BODY_CORNERS) × (convex ≡ true))
shape true convex n h e = inl (grind (arith, nat_tests))
shape false convex n h e =
    let parts = and_parts (leb n MOST_BODY_CORNERS) convex h in
    inr (grind (arith, nat_tests), parts.1)

convex-many : (corners : List Vertex) → is_strictly_convex corners ≡ true → LEAST_CORNERS ≤ length corners
convex-many corners h =
    let many = (and_parts (leb LEAST_CORNERS (length corners)) _ h).0 in
    grind (arith, nat_tests)

-- if there is one corner, or they are many and convex
body-words : (n count : ℕ) → count ≡ 2 * n → (n ≡ 1) ⊎ (LEAST_CORNERS ≤ n) → (eqb count 2 || (eqb (count % 2) 0 && leb (2 * LEAST_CORNERS) count)) ≡ true
body-words n count e (inl one) =
    let two : eqb count 2 ≡ true = grind (arith, nat_tests) in
    rw two refl
body-words n count e (inr many) = ap (λ b. eqb count 2 || b) (words-many n count e many) ∙ or-true (eqb count 2)

body-corners : (n count : ℕ) (convex : Bool) → count ≡ 2 * n → (n ≡ 1) ⊎ (convex ≡ true) → (eqb count 2 || convex) ≡ true
body-corners n count convex e (inl one) =
    let two : eqb count 2 ≡ true = grind (arith, nat_tests) in
    rw two refl
body-corners n count convex e (inr c) = ap (λ b. eqb count 2 || b) c ∙ or-true (eqb count 2)

-- one corner, or not too many that are strictly convex
record IsShaped (corners : List Vertex) : Type 0 where
  few : length corners ≤ MOST_BODY_CORNERS
  many : (length corners ≡ 1) ⊎ (LEAST_CORNERS ≤ length corners)
  convex : (length corners ≡ 1) ⊎ (is_strictly_convex corners ≡ true)

IsShaped-one : (corners : List Vertex) → (length corners ≡ 1) ⊎ ((length corners ≤ MOST_BODY_CORNERS) × (is_strictly_convex corners ≡ true)) → IsShaped corners
IsShaped-one corners (inl one) = record { few = omega arith; many = inl one; convex = inl one }
IsShaped-one corners (inr h) = record { few = h.0; many = inr (convex-many corners h.1); convex = inr h.1 }

body-shaped : (corners : List Vertex) → is_body corners ≡ true → IsShaped corners
body-shaped corners h =
    IsShaped-one corners (shape (eqb (length corners) 1) (is_strictly_convex corners) (length corners)
    (and_parts (eqb (length corners) 1 || (leb (length corners) MOST_BODY_CORNERS && is_strictly_convex corners)) _ h).0 refl)

pub fit-body : (version : ℕ) (corners : List Vertex) → is_body corners ≡ true → MayStand version keys.Body (corner_numbers corners)
fit-body version corners h =
    let shaped = body-shaped corners h in
    let count = length-corner_numbers corners in
    let few = shaped.few in
    record {
      count = body-words (length corners) (length (corner_numbers corners)) count shaped.many;
      few = grind (arith, nat_tests);
      ranged = corners-ranged LEAST_BODY_COORDINATE MOST_BODY_COORDINATE corners
          (and_parts (eqb (length corners) 1 || (leb (length corners) MOST_BODY_CORNERS && is_strictly_convex corners)) _ h).1;
      corners = ap (λ vs. eqb (length (corner_numbers corners)) 2 || is_strictly_convex vs) (corners_from-numbers corners)
          ∙ body-corners (length corners) (length (corner_numbers corners)) (is_strictly_convex corners) count shaped.convex;
    }

obstacle-parts : (version : ℕ) (corners : List Vertex) → is_obstacle version corners ≡ true
    → (length corners ≤ MOST_OBSTACLE_CORNERS) × (is_strictly_convex corners ≡ true)
obstacle-parts version corners h =
    let parts = and_parts (leb (length corners) MOST_OBSTACLE_CORNERS) (is_strictly_convex corners)
    (and_parts (leb (length corners) MOST_OBSTACLE_CORNERS && is_strictly_convex corners) _ h).0 in
    (grind (arith, nat_tests), parts.1)

pub fit-obstacle : (version : ℕ) (corners : List Vertex) → is_obstacle version corners ≡ true → MayStand version keys.Obstacle (corner_numbers corners)
fit-obstacle version corners h =
    let parts = obstacle-parts version corners h in
    let few = parts.0 in
    let count = length-corner_numbers corners in
    record {
      count = words-many (length corners) (length (corner_numbers corners)) count (convex-many corners parts.1);
      few = grind (arith, nat_tests);
      ranged = corners-ranged (least_obstacle_coordinate version) (most_obstacle_coordinate version) corners
          (and_parts (leb (length corners) MOST_OBSTACLE_CORNERS && is_strictly_convex corners) _ h).1;
      corners = ap is_strictly_convex (corners_from-numbers corners) ∙ parts.1;
    }
