-- A box that holds another meets all that it meets.
use Rattle.obstacle_boxes.proofs.Words.{◌≡◌, Bool, true, false, ◌&&◌, refl, arith, ℤ, int_le, ◌≤ℤ◌, ints, and_parts, and_from, BoundingBox, boxes_meet, Holds}

-- what an inner box meets, the outer one meets
pub meets-outer : (p outer inner : BoundingBox) → Holds outer inner → boxes_meet p inner ≡ true → boxes_meet p outer ≡ true
meets-outer p outer inner h m =
    let both = and_parts (int_le p.low.x inner.high.x && int_le inner.low.x p.high.x) (int_le p.low.y inner.high.y && int_le inner.low.y p.high.y) m in
    let across = and_parts (int_le p.low.x inner.high.x) (int_le inner.low.x p.high.x) both.0 in
    let up = and_parts (int_le p.low.y inner.high.y) (int_le inner.low.y p.high.y) both.1 in
    let left = h.left in
    let right = h.right in
    let bottom = h.bottom in
    let top = h.top in
    let l : int_le p.low.x outer.high.x ≡ true = far p.low.x inner.high.x outer.high.x across.0 right in
    let r : int_le outer.low.x p.high.x ≡ true = near outer.low.x inner.low.x p.high.x left across.1 in
    let b : int_le p.low.y outer.high.y ≡ true = far p.low.y inner.high.y outer.high.y up.0 top in
    let t : int_le outer.low.y p.high.y ≡ true = near outer.low.y inner.low.y p.high.y bottom up.1 in
    and_from _ _ (and_from _ _ l r) (and_from _ _ b t)
  where
    far : (a b c : ℤ) → int_le a b ≡ true → b ≤ℤ c → int_le a c ≡ true
    far a b c e l = by (int_le a c) refl
      where
        by : (t : Bool) → int_le a c ≡ t → t ≡ true
        by true g = refl
        by false g = absurd (omega (arith, ints))

    near : (a b c : ℤ) → a ≤ℤ b → int_le b c ≡ true → int_le a c ≡ true
    near a b c l e = by (int_le a c) refl
      where
        by : (t : Bool) → int_le a c ≡ t → t ≡ true
        by true g = refl
        by false g = absurd (omega (arith, ints))

-- so what the outer box is apart from, the inner one is
pub apart-inner : (p outer inner : BoundingBox) → Holds outer inner → boxes_meet p outer ≡ false → boxes_meet p inner ≡ false
apart-inner p outer inner h apart = by (boxes_meet p inner) refl
  where
    by : (t : Bool) → boxes_meet p inner ≡ t → t ≡ false
    by false e = refl
    by true e = absurd (let m = meets-outer p outer inner h e in cc)

pub Holds-trans : (p q r : BoundingBox) → Holds p q → Holds q r → Holds p r
Holds-trans p q r h g =
    record { left = omega (arith, ints); right = omega (arith, ints); bottom = omega (arith, ints); top = omega (arith, ints) }
