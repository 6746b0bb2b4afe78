use Rattle.convex_sets.proofs.Words.{◌≡◌, arith, ℤ, pos, negsuc, ◌-ℤ◌, ◌*ℤ◌, ◌≤ℤ◌, w64, to_z, of_z, ints}
use Rattle.convex_sets.proofs.Signs.{mul-bounds}
use Rattle.convex_sets.proofs.orientations.cross.Goals as goal

bounds : (a b : ℤ) → negsuc 8388607 ≤ℤ a → a ≤ℤ pos 8388608 → negsuc 8388607 ≤ℤ b → b ≤ℤ pos 8388608
    → (negsuc 70368744177663 ≤ℤ (a *ℤ b)) × ((a *ℤ b) ≤ℤ pos 70368744177664)
bounds a b p q r s = mul-bounds 8388608 a b p q r s

read : (a x : ℤ) → a ≡ x → negsuc 8388607 ≤ℤ x → x ≤ℤ pos 8388608 → to_z w64 (of_z w64 a) ≡ x
read a x e p q = omega (arith, ints)

read_product : (a b x y : ℤ) → a ≡ x → b ≡ y → negsuc 8388607 ≤ℤ x → x ≤ℤ pos 8388608 → negsuc 8388607 ≤ℤ y → y ≤ℤ pos 8388608
    → to_z w64 (of_z w64 (to_z w64 (of_z w64 a) *ℤ to_z w64 (of_z w64 b))) ≡ x *ℤ y
read_product a b x y d e p q r s = rw (read a x d p q, read b y e r s) (omega (arith, ints, bounds x y p q r s))

read_difference : (a b : ℤ) → negsuc 70368744177663 ≤ℤ a → a ≤ℤ pos 70368744177664 → negsuc 70368744177663 ≤ℤ b → b ≤ℤ pos 70368744177664
    → to_z w64 (of_z w64 (a -ℤ b)) ≡ a -ℤ b
read_difference a b p q r s = omega (arith, ints)

pub overflow_sub-result : goal.overflow_sub-result
overflow_sub-result c =
    let u = c.requires.first in
    let v = c.requires.second in
    let f = read_product c.from.result c.from-2.result c.args.u.x c.args.v.y (omega (arith, ints)) (omega (arith, ints)) u.left u.right v.bottom v.top in
    let g = read_product c.from-3.result c.from-4.result c.args.u.y c.args.v.x (omega (arith, ints)) (omega (arith, ints)) u.bottom u.top v.left v.right in
    rw (f, g) (omega (arith, ints, bounds c.args.u.x c.args.v.y u.left u.right v.bottom v.top, bounds c.args.u.y c.args.v.x u.bottom u.top v.left v.right))

pub returns : goal.returns
returns c =
    let u = c.requires.first in
    let v = c.requires.second in
    let f = read_product c.from.result c.from-2.result c.args.u.x c.args.v.y (omega (arith, ints)) (omega (arith, ints)) u.left u.right v.bottom v.top in
    let g = read_product c.from-3.result c.from-4.result c.args.u.y c.args.v.x (omega (arith, ints)) (omega (arith, ints)) u.bottom u.top v.left v.right in
    let a = bounds c.args.u.x c.args.v.y u.left u.right v.bottom v.top in
    let b = bounds c.args.u.y c.args.v.x u.bottom u.top v.left v.right in
    rw (f, g) (read_difference (c.args.u.x *ℤ c.args.v.y) (c.args.u.y *ℤ c.args.v.x) a.0 a.1 b.0 b.1)
