-- A root, rounded up, is within a bound exactly if the square of a number within the bound reaches.
use Rattle.edge_cost.proofs.Words.{ℕ, ◌*◌, ◌≤◌, min, arith, mul-le, root_ceiling-is}
use Rattle.plan_model.specs.Geometry.Lengths.{root_ceiling}

pub within_if_reached : (n bound most : ℕ) → most ≤ bound → n ≤ most * most → root_ceiling n ≤ bound
within_if_reached n bound most within reaches = omega (arith, (root_ceiling-is n).least most reaches)

-- where the square of a number reaches, none above it need be tried
pub reached_if_within : (n bound top : ℕ) → n ≤ top * top → root_ceiling n ≤ bound → n ≤ min bound top * min bound top
reached_if_within n bound top reaches below =
    let root = root_ceiling n in
    let most = min bound top in
    let within : root ≤ most = omega (arith, (root_ceiling-is n).least top reaches) in
    omega (arith, (root_ceiling-is n).reaches, mul-le root root most most within within)
