-- The square root of a number, rounded up, by the square of a number that reaches it, where that of the number before does not.
use Rattle.edge_cost.proofs.Words.{◌≡◌, ℕ, ◌-◌, ◌*◌, ◌<◌, ◌≤◌, sym, arith, IsRootCeiling, root_ceiling-from_squares, root_ceiling-unique}
use Rattle.plan_model.specs.Geometry.Lengths.{root_ceiling}

pub first_is_root : (n r : ℕ) → n ≤ r * r → (r - 1) * (r - 1) < n → r ≡ root_ceiling n
first_is_root n r reaches short = sym (root_ceiling-from_squares n r reaches short)

-- no number is before 0
pub zero_is_root : (n r : ℕ) → n ≤ r * r → r ≤ 0 → r ≡ root_ceiling n
zero_is_root n r reaches none =
    let is_root : IsRootCeiling n r = record { reaches = reaches; least = λ s reached. omega arith } in
    sym (root_ceiling-unique n r is_root)
