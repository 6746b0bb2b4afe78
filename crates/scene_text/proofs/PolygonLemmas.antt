-- The corners of a polygon, from the numbers of its line.
use Rattle.scene_text.proofs.Words.{◌≡◌, ℕ, ◌+◌, ◌*◌, ◌%◌, Bool, true, false, ◌||◌, eqb, ℤ, ◌≤ℤ◌, None, Some, List, [], ◌∷◌, ◌++◌, length, map, refl, ap, ◌∙◌}
use Rattle.scene_text.proofs.Words.{subst, arith, list_all, length-map, nat_tests, AreBoundedCorners, bounded_corners, Vertex, is_number, value_of}
use Rattle.scene_text.proofs.Words.{LEAST_CORNER_COORDINATE, MOST_CORNER_COORDINATE, is_strictly_convex, is_corner_between, are_between, corners_from}
use Rattle.scene_text.proofs.Words.{has_corners, first_failing, corner_numbers, corners-within}
use Rattle.plan_model.specs.declared.text_terms.Key.TheVariants as keys
use Rattle.plan_model.specs.declared.text_terms.Kind.TheVariants as kinds
use Rattle.scene_text.proofs.CanonicalNumbers.{corners_from-numbers, length-corner_numbers}

-- ---- corners that are read one after another

-- The numbers of the words are those of the corners and of the rest, and are in the range if those of the rest are.
pub record ReadsCorners (least most : ℤ) (words rest : List (List ℕ)) (corners : List Vertex) : Type 0 where
  pub value : map value_of words ≡ corner_numbers corners ++ map value_of rest
  pub ranged : are_between least most (map value_of words) ≡ are_between least most (map value_of rest)
  pub numbers : list_all is_number rest ≡ true
  pub pairs : length rest % 2 ≡ 0

corner_numbers-push : (corners : List Vertex) (v : Vertex) (zs : List ℤ) → corner_numbers corners ++ v.x ∷ v.y ∷ zs ≡ corner_numbers (corners ++ v ∷ []) ++ zs
corner_numbers-push [] v zs = refl
corner_numbers-push (corner ∷ corners) v zs = ap (λ rest. corner.x ∷ corner.y ∷ rest) (corner_numbers-push corners v zs)

ranged-pair : (least most x y : ℤ) (zs : List ℤ) → are_between least most (x ∷ y ∷ []) ≡ true
    → are_between least most (x ∷ y ∷ zs) ≡ are_between least most zs
ranged-pair least most x y zs h = grind arith

-- two numbers fewer are left after a corner
fewer : (rest after : List (List ℕ)) (x y : ℤ) → map value_of rest ≡ x ∷ y ∷ map value_of after → length rest ≡ length after + 2
fewer rest after x y e =
    let same = ap length e in
    omega (arith, same, length-map rest value_of, length-map after value_of)

-- one more corner
pub ReadsCorners-more : (least most : ℤ) (words rest after : List (List ℕ)) (corners : List Vertex) (v : Vertex)
    → ReadsCorners least most words rest corners → map value_of rest ≡ v.x ∷ v.y ∷ map value_of after
    → are_between least most (v.x ∷ v.y ∷ []) ≡ true → list_all is_number after ≡ true
    → ReadsCorners least most words after (corners ++ v ∷ [])
ReadsCorners-more least most words rest after corners v h e within numbers = record {
  value = h.value ∙ ap (λ zs. corner_numbers corners ++ zs) e ∙ corner_numbers-push corners v (map value_of after);
  ranged = h.ranged ∙ ap (are_between least most) e ∙ ranged-pair least most v.x v.y (map value_of after) within;
  numbers = numbers;
  pairs = (let count = fewer rest after v.x v.y e in let pairs = h.pairs in omega arith);
}

-- ---- the checks of the numbers of a polygon

-- the corners whose numbers stand in the line
pub corners-given : (zs : List ℤ) (corners : List Vertex) → zs ≡ corner_numbers corners → corners_from zs ≡ corners
corners-given zs corners e = ap corners_from e ∙ corners_from-numbers corners

-- corners whose numbers are in a range are bounded
pub bounded-given : (low high : ℤ) (zs : List ℤ) (corners : List Vertex) → LEAST_CORNER_COORDINATE ≤ℤ low → high ≤ℤ MOST_CORNER_COORDINATE
    → zs ≡ corner_numbers corners → are_between low high zs ≡ true → AreBoundedCorners corners
bounded-given low high zs corners above below e ranged =
    bounded_corners low high corners above below
    (subst (λ vs. list_all (is_corner_between low high) vs ≡ true) (corners-given zs corners e) (corners-within low high zs ranged))

-- the check of an obstacle's corners
pub has_corners-obstacle : (zs : List ℤ) (corners : List Vertex) → zs ≡ corner_numbers corners → has_corners keys.Obstacle zs ≡ is_strictly_convex corners
has_corners-obstacle zs corners e = ap is_strictly_convex (corners-given zs corners e)

one-corner : (n count : ℕ) → count ≡ 2 * n → eqb count 2 ≡ eqb n 1
one-corner n count e = grind (arith, nat_tests)

-- the check of a body's corners
pub has_corners-body : (zs : List ℤ) (corners : List Vertex) → zs ≡ corner_numbers corners
    → has_corners keys.Body zs ≡ (eqb (length corners) 1 || is_strictly_convex corners)
has_corners-body zs corners e =
    let one = one-corner (length corners) (length zs) (ap length e ∙ length-corner_numbers corners) in
    ap (λ b. b || is_strictly_convex (corners_from zs)) one
    ∙ ap (λ vs. eqb (length corners) 1 || is_strictly_convex vs) (corners-given zs corners e)

-- both checks pass
pub checks-pass : (ranged convex : Bool) → ranged ≡ true → convex ≡ true → first_failing ((ranged, kinds.Range) ∷ (convex, kinds.Corners) ∷ []) ≡ None
checks-pass ranged convex r h = rw (r, h) refl

-- the check of the corners fails
pub checks-corners : (ranged convex : Bool) → ranged ≡ true → convex ≡ false
    → first_failing ((ranged, kinds.Range) ∷ (convex, kinds.Corners) ∷ []) ≡ Some kinds.Corners
checks-corners ranged convex r h = rw (r, h) refl
