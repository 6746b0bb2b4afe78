-- With gamma 0 the radius is 0, so no node is near a free point.
use Rattle.plan_model.proofs.Words.{◌≡◌, ℕ, zero, suc, ◌-◌, ◌*◌, ◌^◌, ◌<◌, Bool, false, leb, List, [], length, Option, arith, refl, ap, ◌∙◌, range_with_len}
use Rattle.plan_model.proofs.Words.{mul-pos, pow_pos, nat_tests, Point, class_of, greatest, radius_of, point_at, IsFree, node_count, is_within, near, Setup}
use Rattle.plan_model.proofs.Words.{near_new}
use Rattle.plan_model.proofs.FreePoints.{is_near_free, filter-none}

greatest-none : (test : ℕ → Bool) (n : ℕ) → ((r : ℕ) → test (suc r) ≡ false) → greatest test n ≡ 0
greatest-none test zero h = refl
greatest-none test (suc n) h = rw (h n) (greatest-none test n h)

not_within_zero : (r m b : ℕ) → 0 < m → leb (suc r * suc r * m) (0 * 0 * b) ≡ false
not_within_zero r m b h =
    let p : 0 < suc r * suc r * m = mul-pos (omega arith) h in
    let e : 0 * 0 * b ≡ 0 = omega arith in
    rw e (grind (arith, nat_tests))

-- the radius for gamma 0
radius_of-zero : (step n : ℕ) → radius_of step 0 n ≡ 0
radius_of-zero step n =
    greatest-none (λ r. leb (r * r * 2 ^ (class_of n - 1)) (0 * 0 * class_of n)) step
    (λ r. not_within_zero r (2 ^ (class_of n - 1)) (class_of n) (pow_pos (class_of n - 1)))

-- no node is near a free point
pub near_new-none : (setup : Setup) (points : List (Option Point)) (p : Point) → setup.gamma ≡ 0 → IsFree points p → near_new setup points p ≡ []
near_new-none setup points p gamma free =
    let radius : radius_of setup.step setup.gamma (node_count points) ≡ 0 =
    ap (λ g. radius_of setup.step g (node_count points)) gamma ∙ radius_of-zero setup.step (node_count points) in
    ap (near points p) radius
    ∙ filter-none (λ i. is_within p 0 (point_at points i)) (range_with_len 0 (length points)) (λ i. is_near_free points p i free (point_at points i) refl)
