-- The order of edges by their angles, from the start on, once around.
use Rattle.convex_sets.proofs.Words.{◌⊎◌, inl, inr, arith, pos, ◌<ℤ◌, ◌≤ℤ◌, ints, by_lt_z, *ℤ_comm, Vertex, cross, start, rise}
use Rattle.convex_sets.proofs.Signs.{mul-positive, mul-not_negative, mul-not_positive, mul-down_up, mul-up_down, mul-both_not_positive}
use Rattle.convex_sets.proofs.Signs.{mul-both_negative, positive_factor}
use Rattle.convex_sets.proofs.Crosses.{exchange, cross_opposite}
use Rattle.convex_sets.proofs.MergeSteps.{IsAhead}

-- u comes before v
pub data IsBefore : Vertex → Vertex → Type 0 where
  across : {u v : Vertex} → pos 0 <ℤ rise u → rise v <ℤ pos 0 → IsBefore u v
  rising : {u v : Vertex} → pos 0 <ℤ rise u → pos 0 <ℤ rise v → pos 0 <ℤ cross u v → IsBefore u v
  falling : {u v : Vertex} → rise u <ℤ pos 0 → rise v <ℤ pos 0 → pos 0 <ℤ cross u v → IsBefore u v

pub IsBefore-ahead : (u v : Vertex) → IsAhead u v → (pos 0 <ℤ rise u) ⊎ (rise u <ℤ pos 0) → (pos 0 <ℤ rise v) ⊎ (rise v <ℤ pos 0) → IsBefore u v
IsBefore-ahead u v h (inl p) (inl q) = rising p q h.left
IsBefore-ahead u v h (inl p) (inr q) = across p q
IsBefore-ahead u v h (inr p) (inl q) = let f = h.falls_on p in absurd (omega (arith, ints))
IsBefore-ahead u v h (inr p) (inr q) = falling p q h.left

rising_past : (u v w : Vertex) → pos 0 <ℤ rise u → pos 0 <ℤ rise v → pos 0 <ℤ rise w → pos 0 <ℤ cross u v → pos 0 <ℤ cross v w → pos 0 <ℤ cross u w
rising_past u v w p q r f g =
    let one = mul-positive (cross u v) (rise w) f r in
    let two = mul-positive (rise u) (cross v w) p g in
    positive_factor (rise v) (cross u w) (omega (arith, ints)) (rw (exchange start v u w) (omega (arith, ints)))

falling_past : (u v w : Vertex) → rise u <ℤ pos 0 → rise v <ℤ pos 0 → rise w <ℤ pos 0 → pos 0 <ℤ cross u v → pos 0 <ℤ cross v w → pos 0 <ℤ cross u w
falling_past u v w p q r f g =
    by_lt_z (pos 0) (cross u w) (λ left. left) (λ right.
    let one = mul-up_down (cross u v) (rise w) f r in
    let two = mul-down_up (rise u) (cross v w) p g in
    let three = mul-both_not_positive (rise v) (cross u w) (omega (arith, ints)) right in
    absurd (omega (arith, ints, exchange start v u w, one, two, three)))

pub IsBefore-trans : (u v w : Vertex) → IsBefore u v → IsBefore v w → IsBefore u w
IsBefore-trans u v w (across p q) (across r s) = absurd (omega (arith, ints))
IsBefore-trans u v w (across p q) (rising r s g) = absurd (omega (arith, ints))
IsBefore-trans u v w (across p q) (falling r s g) = across p s
IsBefore-trans u v w (rising p q f) (across r s) = across p s
IsBefore-trans u v w (rising p q f) (rising r s g) = rising p s (rising_past u v w p q s f g)
IsBefore-trans u v w (rising p q f) (falling r s g) = absurd (omega (arith, ints))
IsBefore-trans u v w (falling p q f) (across r s) = absurd (omega (arith, ints))
IsBefore-trans u v w (falling p q f) (rising r s g) = absurd (omega (arith, ints))
IsBefore-trans u v w (falling p q f) (falling r s g) = falling p s (falling_past u v w p q s f g)

-- No edge after two consecutive ones has their common corner furthest to its right.
pub not_after : (a b c : Vertex) → IsBefore a b → IsBefore b c → pos 0 ≤ℤ cross c b → cross c a ≤ℤ pos 0 → ⊥
not_after a b c h (rising p q f) g k = omega (arith, ints, cross_opposite b c)
not_after a b c h (falling p q f) g k = omega (arith, ints, cross_opposite b c)
not_after a b c (across r s) (across p q) g k = omega (arith, ints)
not_after a b c (falling r s f) (across p q) g k = omega (arith, ints)
not_after a b c (rising r s f) (across p q) g k =
    let back : cross b a <ℤ pos 0 = omega (arith, ints, cross_opposite b a) in
    let one = mul-both_negative (cross b a) (rise c) back q in
    let two = mul-not_negative (rise b) (cross a c) (omega (arith, ints)) (omega (arith, ints, cross_opposite a c)) in
    let three = mul-not_positive (rise a) (cross b c) (omega (arith, ints)) (omega (arith, ints, cross_opposite b c)) in
    omega (arith, ints, exchange start a b c, one, two, three)

-- Nor has one before them.
pub not_before : (a b c : Vertex) → IsBefore a b → IsBefore b c → pos 0 ≤ℤ cross a c → cross a b ≤ℤ pos 0 → ⊥
not_before a b c (rising p q f) h g k = omega (arith, ints)
not_before a b c (falling p q f) h g k = omega (arith, ints)
not_before a b c (across p q) (across r s) g k = omega (arith, ints)
not_before a b c (across p q) (rising r s f) g k = omega (arith, ints)
not_before a b c (across p q) (falling r s f) g k =
    let one = mul-not_positive (cross b a) (rise c) (omega (arith, ints, cross_opposite b a)) (omega (arith, ints)) in
    let two = mul-not_positive (cross a c) (rise b) g (omega (arith, ints)) in
    let three = mul-positive (rise a) (cross b c) p f in
    omega (arith, ints, exchange start a b c, one, two, three, *ℤ_comm (rise b) (cross a c))

-- Nor has an edge between the first and the last, for the corner at which they meet.
pub not_between : (a c b : Vertex) → IsBefore a c → IsBefore c b → pos 0 <ℤ rise a → rise b <ℤ pos 0 → pos 0 ≤ℤ cross c a → cross c b ≤ℤ pos 0 → ⊥
not_between a c b (rising p q f) h up down g k = omega (arith, ints, cross_opposite a c)
not_between a c b (falling p q f) h up down g k = omega (arith, ints)
not_between a c b (across p q) (rising r s f) up down g k = omega (arith, ints)
not_between a c b (across p q) (across r s) up down g k = omega (arith, ints)
not_between a c b (across p q) (falling r s f) up down g k = omega (arith, ints)
