use Rattle.edge_cost.proofs.Words.{◌≡◌, ◌+◌, ◌-◌, ◌*◌, ◌<◌, arith, mul-le}
use Rattle.edge_cost.proofs.RootBounds.{first_is_root}
use Rattle.edge_cost.proofs.costs.cost_of_square.Goals as goal

pub returns-then-n-below-clause-value : goal.returns-then-n-below-clause-value
returns-then-n-below-clause-value c =
    let below = c.number_below-below.result in
    let low : below < 2147483648 = omega (arith, c.number_below-below.ensures) in
    let square = mul-le below below 2147483648 2147483648 (omega arith) (omega arith) in
    let short : below * below < 65536 * c.args.square = omega (arith, square, c.if-n-below.true, c.requires) in
    let before : below + 1 - 1 ≡ below = omega arith in
    first_is_root (65536 * c.args.square) (below + 1) (omega (arith, square, c.if-n-below.true, c.requires)) (rw before short)
