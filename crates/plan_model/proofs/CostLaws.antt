-- Costs are the same in both directions, and only an edge without length costs nothing.
use Rattle.plan_model.proofs.Words.{◌≡◌, ℕ, ◌*◌, ap, arith, Point, squared_distance, cost_of, abs_diff}
use Rattle.plan_model.specs.Geometry.Lengths.{root_ceiling}
use Rattle.plan_model.proofs.RootLaws.{root_ceiling-is}
use Rattle.plan_model.proofs.FreePoints.{same-from_distance}

abs_diff-swap : (a b : ℕ) → abs_diff a b ≡ abs_diff b a
abs_diff-swap a b = omega arith

pub cost_of-swap : (a b : Point) → cost_of a b ≡ cost_of b a
cost_of-swap a b =
    let x : abs_diff a.x b.x * abs_diff a.x b.x ≡ abs_diff b.x a.x * abs_diff b.x a.x = ap (λ (g : ℕ). g * g) (abs_diff-swap a.x b.x) in
    let y : abs_diff a.y b.y * abs_diff a.y b.y ≡ abs_diff b.y a.y * abs_diff b.y a.y = ap (λ (g : ℕ). g * g) (abs_diff-swap a.y b.y) in
    let e : 65536 * squared_distance a b ≡ 65536 * squared_distance b a = omega arith in
    ap root_ceiling e

pub cost_of-zero : (a b : Point) → cost_of a b ≡ 0 → a ≡ b
cost_of-zero a b h =
    let reaches = (root_ceiling-is (65536 * squared_distance a b)).reaches in
    let none : cost_of a b * cost_of a b ≡ 0 = ap (λ (c : ℕ). c * c) h in
    same-from_distance a b (omega arith)
