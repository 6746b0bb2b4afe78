-- The marks of a scene are few, and their distances can be taken: no coordinate is above the greatest one of such points.
use Rattle.plan_model.proofs.Words.{◌≡◌, ℕ, ◌+◌, ◌-◌, ◌*◌, ◌/◌, ◌%◌, ◌^◌, ◌<◌, ◌≤◌, Bool, true, length, arith, ap, inl, inr, IsTrue, All, ℤ, pos, negsuc}
use Rattle.plan_model.proofs.Words.{int_le, list_all, range_with_len, mod_below, length-map, length-range_with_len, AllPass-from_list_all, All-map, All-weaker}
use Rattle.plan_model.proofs.Words.{All-same, and_parts, leb-true, cases_lt, lt-ltb, Vertex, Scene, Marks, Drawn, Listed, Span, Task, LEAST_BODY_COORDINATE}
use Rattle.plan_model.proofs.Words.{MOST_BODY_COORDINATE, MOST_COORDINATE, MOST_MARKS, IsBounded, is_corner_between, is_mark, is_plan, mark_points}
use Rattle.plan_model.proofs.Words.{points_of_marks, drawn_mark, strip_of_mark, first_word, second_word, next_state, below_zero, above_zero, reach, span_within}
use Rattle.plan_model.proofs.Words.{columns, rows, strip, picked}
use Rattle.plan_model.proofs.SceneBounds.{IsBounded-listed, IsBounded-room}
use Rattle.plan_model.proofs.SpanLaws.{reach-bounded}
use Rattle.plan_model.proofs.StripLaws.{strip-some, strip-within}
use Rattle.plan_model.proofs.DrawnMarks.{word_below, picked-within}

-- ---- spans within the greatest coordinate

-- the coordinates of the span, and its first one if there is none, are within the greatest coordinate
pub record IsSpanWithin (span : Span) : Type 0 where
  pub first : span.first ≤ MOST_COORDINATE
  pub end : span.first + span.count ≤ MOST_COORDINATE + 1

-- so is what a word picks of it
picked-within_most : (span : Span) (word : ℕ) → IsSpanWithin span → word < 2 ^ 64 → picked span word ≤ MOST_COORDINATE
picked-within_most span word h small =
    elim (cases_lt 0 span.count) [
      | inl some ↦ (let own = picked-within span word some small in omega (arith, own.high, h.end))
      | inr none ↦ (
          let empty : span.count ≡ 0 = omega arith in
          rw (ap (λ n. span.first + ((word / 2 ^ 32) * n) / 2 ^ 32) empty) (omega (arith, h.first)))
    ]

-- and a strip of it
strip-within_most : (all : Span) (strips g : ℕ) → g < strips → IsSpanWithin all → IsSpanWithin (strip all strips g)
strip-within_most all strips g own h =
    elim (cases_lt 0 all.count) [
      | inl some ↦ (
          let part : Span = strip all strips g in
          let columns : 0 < part.count = strip-some all strips g some own in
          let low = strip-within all strips g part.first own (record { low = omega arith; high = omega arith }) in
          let high = strip-within all strips g (part.first + part.count - 1) own (record { low = omega arith; high = omega arith }) in
          record { first = omega (arith, low.high, h.end); end = omega (arith, high.high, h.end) })
      | inr none ↦ (let few = lt-ltb all.count strips (omega arith) in rw few h)
    ]

-- the side of a room, and how far the greatest body reaches back, bound where the body fits
span_within-most : (side back forth : ℕ) → side ≤ MOST_COORDINATE → back ≤ below_zero LEAST_BODY_COORDINATE → IsSpanWithin (span_within side back forth)
span_within-most side back forth low short = record { first = omega arith; end = omega arith }

-- ---- the columns and the rows of a scene

-- both coordinates of the corner are in the range of a body's
abbrev is_body_corner : Vertex → Bool
is_body_corner v = is_corner_between LEAST_BODY_COORDINATE MOST_BODY_COORDINATE v

-- a coordinate that is not below another is no further below 0
below_zero-le : (low z : ℤ) → int_le low z ≡ true → below_zero z ≤ below_zero low
below_zero-le low (pos n) h = omega arith
below_zero-le (pos l) (negsuc n) h = cc
below_zero-le (negsuc l) (negsuc n) h = omega (arith, leb-true n l h)

-- so the body does not reach far back
short_reach :
    (scene : Scene) (coordinate : Vertex → ℤ) → ((v : Vertex) → is_body_corner v ≡ true → int_le LEAST_BODY_COORDINATE (coordinate v) ≡ true)
    → reach (λ v. below_zero (coordinate v)) scene.body ≤ below_zero LEAST_BODY_COORDINATE
short_reach scene coordinate low =
    let most : ℕ = below_zero LEAST_BODY_COORDINATE in
    let own = (and_parts _ (list_all is_body_corner scene.body) scene.body_within).1 in
    let short : (v : Vertex) → is_body_corner v ≡ true → below_zero (coordinate v) ≤ most =
    λ v h. below_zero-le LEAST_BODY_COORDINATE (coordinate v) (low v h) in
    reach-bounded (λ v. below_zero (coordinate v)) 0 scene.body most (record {
      start = omega arith;
      corners = All-weaker (λ v. is_body_corner v ≡ true) (λ v. below_zero (coordinate v) ≤ most) short scene.body
          (AllPass-from_list_all is_body_corner scene.body own);
    })

-- no column and no row has a number above the greatest coordinate
pub columns-within : (scene : Scene) → IsSpanWithin (columns scene.room scene.body)
columns-within scene =
    span_within-most scene.room.x (reach (λ v. below_zero v.x) scene.body) (reach (λ v. above_zero v.x) scene.body) (IsBounded-room scene).right
    (short_reach scene (λ v. v.x) (λ v h. (and_parts _ _ h).0))

pub rows-within : (scene : Scene) → IsSpanWithin (rows scene.room scene.body)
rows-within scene =
    span_within-most scene.room.y (reach (λ v. below_zero v.y) scene.body) (reach (λ v. above_zero v.y) scene.body) (IsBounded-room scene).top
    (short_reach scene (λ v. v.y) (λ v h. (and_parts _ _ (and_parts _ _ (and_parts _ _ h).1).1).0))

-- ---- marks

drawn_within : (scene : Scene) (k : ℕ) → IsBounded (drawn_mark scene k)
drawn_within scene k =
    let state : ℕ = (scene.seed + k) % 2 ^ 64 in
    let g : ℕ = strip_of_mark scene.strips k in
    let own : strip_of_mark scene.strips k < scene.strips = mod_below k scene.strips (omega (arith, scene.strips_low)) in
    let part = strip-within_most (columns scene.room scene.body) scene.strips g own (columns-within scene) in
    record {
      right = picked-within_most (strip (columns scene.room scene.body) scene.strips g) (first_word state) part (word_below (next_state state));
      top = picked-within_most (rows scene.room scene.body) (second_word state) (rows-within scene) (word_below (next_state (next_state state)));
    }

-- no coordinate of a mark is above the greatest one
pub All-marks_within : (scene : Scene) (plan : Marks) → IsTrue (is_plan scene.version plan) → All IsBounded (points_of_marks scene plan)
All-marks_within scene (Drawn n) h =
    All-map IsBounded (drawn_mark scene) (range_with_len 0 n) (λ k d l. drawn_within scene _)
All-marks_within scene (Listed points) h =
    All-weaker (λ p. is_mark scene.version p ≡ true) IsBounded (IsBounded-listed scene.version) points
    (AllPass-from_list_all (is_mark scene.version) points (and_parts _ _ h).1)

-- there are not too many marks
pub length-points_of_marks : (scene : Scene) (plan : Marks) → IsTrue (is_plan scene.version plan) → length (points_of_marks scene plan) ≤ MOST_MARKS
length-points_of_marks scene (Drawn n) h =
    omega (arith, length-map (range_with_len 0 n) (drawn_mark scene), length-range_with_len 0 n, leb-true n MOST_MARKS h)
length-points_of_marks scene (Listed points) h = leb-true (length points) MOST_MARKS (and_parts _ _ h).0

-- the marks of a task
pub length-marks : (task : Task) → length task.marks ≤ MOST_MARKS
length-marks task = omega (arith, ap length task.of_scene, length-points_of_marks task.scene task.scene.plan task.scene.plan_within)

pub All-task_marks_within : (task : Task) → All IsBounded task.marks
All-task_marks_within task =
    let scene = task.scene in
    All-same IsBounded task.marks (mark_points scene) task.of_scene (All-marks_within scene scene.plan scene.plan_within)
