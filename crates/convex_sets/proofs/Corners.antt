-- Corners by their coordinates: when two are the same, and what their bounds say.
use Rattle.convex_sets.proofs.Words.{◌≡◌, ℕ, ◌<◌, true, ◌&&◌, List, length, sym, arith, ℤ, pos, ◌≤ℤ◌, int_le, and_parts, and_from, ints}
use Rattle.convex_sets.proofs.Words.{LEAST_CORNER_COORDINATE, MOST_CORNER_COORDINATE, Vertex, corner_at, is_corner_between, IsBoundedCorner, AreBoundedCorners}
use Rattle.convex_sets.proofs.Words.{true_at}

-- vectors with the same coordinates are the same
pub same_vector : (u v : Vertex) → u.x ≡ v.x → u.y ≡ v.y → u ≡ v
same_vector u v p q = λ t. record { x = p t; y = q t }

-- both coordinates are between two numbers
pub record IsWithin (low high : ℤ) (v : Vertex) : Type 0 where
  pub left : low ≤ℤ v.x
  pub right : v.x ≤ℤ high
  pub bottom : low ≤ℤ v.y
  pub top : v.y ≤ℤ high

pub within_of : (low high : ℤ) (v : Vertex) → is_corner_between low high v ≡ true → IsWithin low high v
within_of low high v h =
    let first = and_parts (int_le low v.x) (int_le v.x high && (int_le low v.y && int_le v.y high)) h in
    let second = and_parts (int_le v.x high) (int_le low v.y && int_le v.y high) first.1 in
    let third = and_parts (int_le low v.y) (int_le v.y high) second.1 in
    record {
      left = omega (arith, ints, first.0);
      right = omega (arith, ints, second.0);
      bottom = omega (arith, ints, third.0);
      top = omega (arith, ints, third.1);
    }

pub bounded_corner : (v : Vertex) → IsBoundedCorner v → IsWithin LEAST_CORNER_COORDINATE MOST_CORNER_COORDINATE v
bounded_corner v h = within_of LEAST_CORNER_COORDINATE MOST_CORNER_COORDINATE v h

pub bounded_at : (corners : List Vertex) (i : ℕ) → AreBoundedCorners corners → i < length corners → IsBoundedCorner (corner_at corners i)
bounded_at corners i h l = true_at (is_corner_between LEAST_CORNER_COORDINATE MOST_CORNER_COORDINATE) corners i (record { x = pos 0; y = pos 0 }) h l

pub of_within : (low high : ℤ) (v : Vertex) → IsWithin low high v → is_corner_between low high v ≡ true
of_within low high v h =
    let a : int_le low v.x ≡ true = sym (omega (arith, ints)) in
    let b : int_le v.x high ≡ true = sym (omega (arith, ints)) in
    let c : int_le low v.y ≡ true = sym (omega (arith, ints)) in
    let d : int_le v.y high ≡ true = sym (omega (arith, ints)) in
    and_from _ _ a (and_from _ _ b (and_from _ _ c d))

pub bounded_of : (v : Vertex) → IsWithin LEAST_CORNER_COORDINATE MOST_CORNER_COORDINATE v → IsBoundedCorner v
bounded_of v h = of_within LEAST_CORNER_COORDINATE MOST_CORNER_COORDINATE v h
