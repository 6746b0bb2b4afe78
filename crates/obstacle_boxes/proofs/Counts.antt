-- How many leaves have a box that meets another one.
use Rattle.obstacle_boxes.proofs.Words.{◌≡◌, ℕ, suc, ◌+◌, ◌<◌, Bool, false, cond, List, [], ◌∷◌, ◌++◌, length, get_or, refl, arith, All, count_by, sum_by-cons}
use Rattle.obstacle_boxes.proofs.Words.{sum_by-append, All-head, All-tail, BoundingBox, Leaf, leaves_met, boxes_meet}

-- two tests that agree place by place count as many
pub count_by-agree : {X Y : Type 0} (p : X → Bool) (q : Y → Bool) (xs : List X) (ys : List Y) → length xs ≡ length ys
    → ((i : ℕ) (d : X) (e : Y) → i < length xs → p (get_or xs i d) ≡ q (get_or ys i e)) → count_by p xs ≡ count_by q ys
count_by-agree p q [] [] long h = refl
count_by-agree p q [] (y ∷ ys) long h = absurd (omega (arith, long))
count_by-agree p q (x ∷ xs) [] long h = absurd (omega (arith, long))
count_by-agree p q (x ∷ xs) (y ∷ ys) long h =
    let head : p x ≡ q y = h 0 x y (omega arith) in
    let tail = count_by-agree p q xs ys (omega (arith, long)) (λ i d e l. h (suc i) d e (omega arith)) in
    rw (sum_by-cons (λ x. cond (p x) 1 0) x xs, sum_by-cons (λ y. cond (q y) 1 0) y ys, head, tail) refl

pub leaves_met-append : (bounds : BoundingBox) (xs ys : List Leaf) → leaves_met bounds (xs ++ ys) ≡ leaves_met bounds xs + leaves_met bounds ys
leaves_met-append bounds xs ys = sum_by-append (λ leaf. cond (boxes_meet bounds leaf.bounds) 1 0) xs ys

pub leaves_met-cons : (bounds : BoundingBox) (leaf : Leaf) (leaves : List Leaf) (t : Bool) → boxes_meet bounds leaf.bounds ≡ t
    → leaves_met bounds (leaf ∷ leaves) ≡ cond t 1 0 + leaves_met bounds leaves
leaves_met-cons bounds leaf leaves t e = rw (sum_by-cons (λ leaf. cond (boxes_meet bounds leaf.bounds) 1 0) leaf leaves, e) refl

pub leaves_met-apart : (bounds : BoundingBox) (leaves : List Leaf) → All (λ leaf. boxes_meet bounds leaf.bounds ≡ false) leaves → leaves_met bounds leaves ≡ 0
leaves_met-apart bounds [] h = refl
leaves_met-apart bounds (leaf ∷ leaves) h =
    let more = leaves_met-cons bounds leaf leaves false (All-head (λ leaf. boxes_meet bounds leaf.bounds ≡ false) leaf leaves h) in
    let rest = leaves_met-apart bounds leaves (All-tail (λ leaf. boxes_meet bounds leaf.bounds ≡ false) leaf leaves h) in
    omega (arith, more, rest)
