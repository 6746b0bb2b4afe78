-- Strictly convex polygons, corner by corner.
use Rattle.convex_sets.proofs.Words.{◌≡◌, ◌≢◌, inl, inr, ℕ, suc, ◌+◌, ◌<◌, ◌≤◌, Bool, true, false, ◌&&◌, nat_le, List, length, refl, sym, ◌∙◌, arith}
use Rattle.convex_sets.proofs.Words.{eq-eqb, ne_eqb, pos, ◌<ℤ◌, int_lt, ints, and_parts, and_from, leb-true, cases_lt, list_all, range_with_len, Vertex}
use Rattle.convex_sets.proofs.Words.{corner_at, next_corner, is_left_of_edge, is_strictly_convex, orientation, is_end_or_left, true_below, true_of_below}
use Rattle.convex_sets.proofs.Words.{false_below, last_true, one_true}

pub left_of_edge : (corners : List Vertex) (i to : ℕ) → to ≡ next_corner (length corners) i
    → ((k : ℕ) → k < length corners → is_end_or_left corners i to k ≡ true) → is_left_of_edge corners i ≡ true
left_of_edge corners i to e h =
    true_of_below (is_end_or_left corners i (next_corner (length corners) i)) (length corners) (λ k l. rw e at (h k l))

pub not_left_of_edge : (corners : List Vertex) (i to k : ℕ) → to ≡ next_corner (length corners) i → k < length corners
    → is_end_or_left corners i to k ≡ false → is_left_of_edge corners i ≡ false
not_left_of_edge corners i to k e l h =
    false_below (is_end_or_left corners i (next_corner (length corners) i)) (length corners) k l (rw e at h)

pub strictly_convex : (corners : List Vertex) → 3 ≤ length corners → ((i : ℕ) → i < length corners → is_left_of_edge corners i ≡ true)
    → is_strictly_convex corners ≡ true
strictly_convex corners three h =
    and_from (nat_le 3 (length corners)) (list_all (is_left_of_edge corners) (range_with_len 0 (length corners))) (grind arith)
    (true_of_below (is_left_of_edge corners) (length corners) h)

right_fails : (a b : Bool) → b ≡ false → (a && b) ≡ false
right_fails true b h = h
right_fails false b h = refl

pub not_strictly_convex : (corners : List Vertex) (i : ℕ) → i < length corners → is_left_of_edge corners i ≡ false → is_strictly_convex corners ≡ false
not_strictly_convex corners i l h =
    right_fails (nat_le 3 (length corners)) (list_all (is_left_of_edge corners) (range_with_len 0 (length corners)))
    (false_below (is_left_of_edge corners) (length corners) i l h)

-- three corners at least, and every corner but its ends strictly to the left of every edge
pub record IsConvex (corners : List Vertex) : Type 0 where
  pub three : 3 ≤ length corners
  pub left : (i k : ℕ) → i < length corners → k < length corners → k ≢ i → k ≢ next_corner (length corners) i
      → pos 0 <ℤ orientation (corner_at corners i) (corner_at corners (next_corner (length corners) i)) (corner_at corners k)

pub IsConvex-from_test : (corners : List Vertex) → is_strictly_convex corners ≡ true → IsConvex corners
IsConvex-from_test corners h =
    let parts = and_parts (nat_le 3 (length corners)) (list_all (is_left_of_edge corners) (range_with_len 0 (length corners))) h in
    record {
      three = leb-true 3 (length corners) parts.0;
      left = λ i k l m p q.
          let next = next_corner (length corners) i in
          let edge = true_below (is_left_of_edge corners) (length corners) parts.1 i l in
          let side : Bool = int_lt (pos 0) (orientation (corner_at corners i) (corner_at corners next) (corner_at corners k)) in
          let test = last_true k i next side (true_below (is_end_or_left corners i next) (length corners) edge k m) p q in
          omega (arith, ints, test);
    }

pub test-from_IsConvex : (corners : List Vertex) → IsConvex corners → is_strictly_convex corners ≡ true
test-from_IsConvex corners c =
    strictly_convex corners c.three (λ i l.
    let next = next_corner (length corners) i in
    left_of_edge corners i next refl (λ k m.
    let side : Bool = int_lt (pos 0) (orientation (corner_at corners i) (corner_at corners next) (corner_at corners k)) in
    one_true k i next side (λ p q. let f = c.left i k l m p q in sym (omega (arith, ints)))))

pub next_inside : (n i : ℕ) → i + 1 < n → next_corner n i ≡ i + 1
next_inside n i h = let t = ne_eqb (i + 1) n (λ e. omega (arith, e)) in rw t

pub next_suc : (n i : ℕ) → suc i < n → next_corner n i ≡ suc i
next_suc n i h = next_inside n i (omega arith) ∙ omega arith

pub next_last : (n i : ℕ) → i + 1 ≡ n → next_corner n i ≡ 0
next_last n i h = let t = eq-eqb (i + 1) n h in rw t

pub next_within : (n i : ℕ) → i < n → next_corner n i < n
next_within n i h =
    elim (cases_lt (suc i) n) [ inl l ↦ rw (next_suc n i l) l | inr l ↦ rw (next_last n i (omega arith)) (omega arith) ]
