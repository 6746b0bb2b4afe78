-- Signs of products of whole numbers.
use Rattle.convex_sets.proofs.Words.{◌≡◌, ℕ, ◌+◌, ◌*◌, ◌<◌, ◌≤◌, arith, ℤ, pos, negsuc, ◌-ℤ◌, ◌*ℤ◌, ◌<ℤ◌, ◌≤ℤ◌, ints, by_lt_z, mul-le, *ℤ_comm}

some_product : (m n : ℕ) → 0 < m → 0 < n → 0 < m * n
some_product m n p q = grind arith

pub mul-positive : (a b : ℤ) → pos 0 <ℤ a → pos 0 <ℤ b → pos 0 <ℤ (a *ℤ b)
mul-positive (pos m) (pos n) p q =
    let f : 0 < m = omega (arith, ints) in
    let g : 0 < n = omega (arith, ints) in
    omega (arith, ints, some_product m n f g)
mul-positive (pos m) (negsuc n) p q = absurd (omega (arith, ints))
mul-positive (negsuc m) b p q = absurd (omega (arith, ints))

pub mul-not_negative : (a b : ℤ) → pos 0 ≤ℤ a → pos 0 ≤ℤ b → pos 0 ≤ℤ (a *ℤ b)
mul-not_negative (pos m) (pos n) p q = omega (arith, ints)
mul-not_negative (pos m) (negsuc n) p q = absurd (omega (arith, ints))
mul-not_negative (negsuc m) b p q = absurd (omega (arith, ints))

pub mul-up_down : (a b : ℤ) → pos 0 <ℤ a → b <ℤ pos 0 → (a *ℤ b) <ℤ pos 0
mul-up_down (pos m) (negsuc n) p q =
    let f : 0 < m = omega (arith, ints) in
    let g : 0 < n + 1 = omega arith in
    omega (arith, ints, some_product m (n + 1) f g)
mul-up_down (pos m) (pos n) p q = absurd (omega (arith, ints))
mul-up_down (negsuc m) b p q = absurd (omega (arith, ints))

-- a factor's sign, from that of a product with a positive one
pub not_negative_factor : (a b : ℤ) → pos 0 <ℤ a → pos 0 ≤ℤ (a *ℤ b) → pos 0 ≤ℤ b
not_negative_factor a b p h = by_lt_z b (pos 0) (λ n. absurd (omega (arith, ints, mul-up_down a b p n))) (λ y. y)

pub mul-not_positive : (a b : ℤ) → pos 0 ≤ℤ a → b ≤ℤ pos 0 → (a *ℤ b) ≤ℤ pos 0
mul-not_positive (pos m) (pos n) p q = let z : n ≡ 0 = omega (arith, ints) in rw z (omega (arith, ints))
mul-not_positive (pos m) (negsuc n) p q = omega (arith, ints)
mul-not_positive (negsuc m) b p q = absurd (omega (arith, ints))

pub positive_factor : (a b : ℤ) → pos 0 ≤ℤ a → pos 0 <ℤ (a *ℤ b) → pos 0 <ℤ b
positive_factor a b p h = by_lt_z (pos 0) b (λ y. y) (λ n. absurd (omega (arith, ints, mul-not_positive a b p n)))

-- the product of two numbers whose absolute values are bounded
pub mul-bounds : (m : ℕ) (a b : ℤ) → (pos 0 -ℤ pos m) ≤ℤ a → a ≤ℤ pos m → (pos 0 -ℤ pos m) ≤ℤ b → b ≤ℤ pos m
    → ((pos 0 -ℤ pos (m * m)) ≤ℤ (a *ℤ b)) × ((a *ℤ b) ≤ℤ pos (m * m))
mul-bounds m (pos a) (pos b) p q r s =
    let f : a ≤ m = omega (arith, ints) in
    let g : b ≤ m = omega (arith, ints) in
    (omega (arith, ints), omega (arith, ints, mul-le a b m m f g))
mul-bounds m (pos a) (negsuc b) p q r s =
    let f : a ≤ m = omega (arith, ints) in
    let g : b + 1 ≤ m = omega (arith, ints) in
    (omega (arith, ints, mul-le a (b + 1) m m f g), omega (arith, ints))
mul-bounds m (negsuc a) (pos b) p q r s =
    let f : a + 1 ≤ m = omega (arith, ints) in
    let g : b ≤ m = omega (arith, ints) in
    (omega (arith, ints, mul-le (a + 1) b m m f g), omega (arith, ints))
mul-bounds m (negsuc a) (negsuc b) p q r s =
    let f : a + 1 ≤ m = omega (arith, ints) in
    let g : b + 1 ≤ m = omega (arith, ints) in
    (omega (arith, ints), omega (arith, ints, mul-le (a + 1) (b + 1) m m f g))

pub mul-down_up : (a b : ℤ) → a <ℤ pos 0 → pos 0 <ℤ b → (a *ℤ b) <ℤ pos 0
mul-down_up a b p q = rw (*ℤ_comm a b) (mul-up_down b a q p)

pub mul-both_not_positive : (a b : ℤ) → a ≤ℤ pos 0 → b ≤ℤ pos 0 → pos 0 ≤ℤ (a *ℤ b)
mul-both_not_positive (pos m) b p q = let z : m ≡ 0 = omega (arith, ints) in rw z (omega (arith, ints))
mul-both_not_positive (negsuc m) (pos n) p q = let z : n ≡ 0 = omega (arith, ints) in rw z (omega (arith, ints))
mul-both_not_positive (negsuc m) (negsuc n) p q = omega (arith, ints)

pub mul-both_negative : (a b : ℤ) → a <ℤ pos 0 → b <ℤ pos 0 → pos 0 <ℤ (a *ℤ b)
mul-both_negative (pos m) b p q = absurd (omega (arith, ints))
mul-both_negative (negsuc m) (pos n) p q = absurd (omega (arith, ints))
mul-both_negative (negsuc m) (negsuc n) p q = omega (arith, ints)
