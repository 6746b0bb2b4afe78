-- The radius does not rise with the number of nodes.
use Rattle.route_laws.proofs.Words.{◌≡◌, inl, inr, ℕ, zero, suc, ◌-◌, ◌*◌, ◌^◌, ◌≤◌, Bool, leb, arith, ap, ◌∙◌, cases_lt, le-leb, leb-true}
use Rattle.route_laws.proofs.Words.{pow-le-pow_right}
use Rattle.route_laws.proofs.Common.{class_of, radius_of, radius_of_class, below_digits, from_digits, greatest-le, greatest-most, greatest-passes}

fits : ℕ → ℕ → ℕ → Bool
fits gamma b r = leb (r * r * 2 ^ (b - 1)) (gamma * gamma * b)

double : (n : ℕ) → 2 ^ suc n ≡ 2 * 2 ^ n
double n = omega arith

-- the radius of a class meets the inequality of the class before it
falls_by_one : (step gamma b : ℕ) → radius_of_class step gamma (suc (suc b)) ≤ radius_of_class step gamma (suc b)
unfolding fits
falls_by_one step gamma b =
    let r : ℕ = radius_of_class step gamma (suc (suc b)) in
    let met : r * r * 2 ^ (suc (suc b) - 1) ≤ gamma * gamma * suc (suc b) =
    leb-true _ _ (greatest-passes (fits gamma (suc (suc b))) step (le-leb (0 * 0 * 2 ^ (suc (suc b) - 1)) (gamma * gamma * suc (suc b)) (omega arith))) in
    let next : suc (suc b) - 1 ≡ suc (suc b - 1) = omega arith in
    let twice : 2 ^ (suc (suc b) - 1) ≡ 2 * 2 ^ (suc b - 1) = ap (λ n. 2 ^ n) next ∙ double (suc b - 1) in
    let within : r * r * 2 ^ (suc b - 1) ≤ gamma * gamma * suc b = omega (arith, met, ap (λ n. r * r * n) twice) in
    greatest-most (fits gamma (suc b)) step r (greatest-le (fits gamma (suc (suc b))) step) (le-leb _ _ within)

falls : (step gamma b c : ℕ) → c ≤ b → radius_of_class step gamma (suc b) ≤ radius_of_class step gamma (suc c)
falls step gamma zero c h =
    let e : c ≡ 0 = omega (arith, h) in rw e (omega arith)
falls step gamma (suc b) c h =
    elim (cases_lt c (suc b)) [
      | inl less ↦ omega (arith, falls_by_one step gamma b, falls step gamma b c (omega arith))
      | inr more ↦ (let e : c ≡ suc b = omega (arith, h) in rw e (omega arith))
    ]

-- ---- classes

-- more nodes have no lower class
class_of-le : (m n : ℕ) → 1 ≤ m → m ≤ n → class_of m ≤ class_of n
class_of-le m n some h =
    elim (cases_lt (class_of n) (class_of m)) [
      | inl less ↦ (
          let powers : 2 ^ class_of n ≤ 2 ^ (class_of m - 1) = pow-le-pow_right {n = 2} (omega arith) (omega arith) in
          absurd (omega (arith, powers, from_digits m some, below_digits n)))
      | inr more ↦ more
    ]

class_of-some : (m : ℕ) → 1 ≤ m → 1 ≤ class_of m
class_of-some m some = class_of-le 1 m (omega arith) some

pub radius_of-falls : (step gamma m n : ℕ) → 1 ≤ m → m ≤ n → radius_of step gamma n ≤ radius_of step gamma m
radius_of-falls step gamma m n some h =
    let first : class_of m ≡ suc (class_of m - 1) = omega (arith, class_of-some m some) in
    let second : class_of n ≡ suc (class_of n - 1) = omega (arith, class_of-some n (omega (arith, some, h))) in
    let lower : class_of m - 1 ≤ class_of n - 1 = omega (arith, class_of-le m n some h) in
    rw (second, first) (falls step gamma (class_of n - 1) (class_of m - 1) lower)
