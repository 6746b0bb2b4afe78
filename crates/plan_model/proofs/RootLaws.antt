-- The root of a number is the least whose square reaches it, and there is only one.
use Rattle.plan_model.proofs.Words.{◌≡◌, ℕ, zero, suc, ◌-◌, ◌*◌, ◌<◌, ◌≤◌, ltb, cond, Bool, true, false, refl, arith, mul-le, nat_tests, IsRootCeiling}
use Rattle.plan_model.specs.Geometry.Lengths.{root_ceiling}

-- a number with a greater square is greater
pub lt-from_squares : (r s n : ℕ) → r * r ≤ n → n < s * s → r < s
lt-from_squares r s n low high = grind (arith, mul-le s s r r)

next_root : (b : Bool) (n r : ℕ) → ltb (r * r) (suc n) ≡ b → IsRootCeiling n r → IsRootCeiling (suc n) (cond b (suc r) r)
next_root true n r e h = record {
  reaches = (let below : r * r < suc n = grind (arith, nat_tests) in let up : r * r ≤ n = omega arith in omega (arith, h.reaches));
  least = λ s g.
      let low : r * r ≤ n = (let below : r * r < suc n = grind (arith, nat_tests) in omega arith) in
      let more : r < s = lt-from_squares r s n low (omega arith) in omega arith;
}
next_root false n r e h = record {
  reaches = grind (arith, nat_tests);
  least = λ s g. h.least s (omega arith);
}

pub root_ceiling-is : (n : ℕ) → IsRootCeiling n (root_ceiling n)
unfolding root_ceiling
root_ceiling-is zero = record { reaches = omega arith; least = λ s h. omega arith }
root_ceiling-is (suc n) = next_root (ltb (root_ceiling n * root_ceiling n) (suc n)) n (root_ceiling n) refl (root_ceiling-is n)

pub root_ceiling-unique : (n r : ℕ) → IsRootCeiling n r → root_ceiling n ≡ r
root_ceiling-unique n r h =
    let own = root_ceiling-is n in
    omega (arith, own.least r h.reaches, h.least (root_ceiling n) own.reaches)

-- the root is r if the square of r is at least n, and that of the number before r is not
pub root_ceiling-from_squares : (n r : ℕ) → n ≤ r * r → (r - 1) * (r - 1) < n → root_ceiling n ≡ r
root_ceiling-from_squares n r reaches short =
    let is_root : IsRootCeiling n r = record {
      reaches = reaches;
      least = λ s h. let more : r - 1 < s = lt-from_squares (r - 1) s ((r - 1) * (r - 1)) (omega arith) (omega arith) in omega arith;
    } in
    root_ceiling-unique n r is_root

pub root_ceiling-zero : root_ceiling 0 ≡ 0
root_ceiling-zero = root_ceiling-unique 0 0 (record { reaches = omega arith; least = λ s h. omega arith })
