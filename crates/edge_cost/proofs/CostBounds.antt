-- Costs of edges between points whose distances can be taken.
use Rattle.edge_cost.proofs.Words.{◌*◌, ◌^◌, ◌<◌, ◌≤◌, arith, mul-le, abs_diff, Point, IsBounded, cost_of, squared_distance, root_ceiling-is}

-- the square of a distance fits 41 bits
pub squared_distance-low : (a b : Point) → IsBounded a → IsBounded b → squared_distance a b ≤ 2 * (1048575 * 1048575)
squared_distance-low a b from to =
    let x = abs_diff a.x b.x in
    let y = abs_diff a.y b.y in
    let width : x ≤ 1048575 = omega (arith, from.right, to.right) in
    let height : y ≤ 1048575 = omega (arith, from.top, to.top) in
    omega (arith, mul-le x x 1048575 1048575 width width, mul-le y y 1048575 1048575 height height)

-- no edge costs more than the greatest
pub cost_of-low : (a b : Point) → IsBounded a → IsBounded b → cost_of a b < 2 ^ 29
cost_of-low a b from to =
    omega (arith, (root_ceiling-is (65536 * squared_distance a b)).least 536870911 (omega (arith, squared_distance-low a b from to)))
