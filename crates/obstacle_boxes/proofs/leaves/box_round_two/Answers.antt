use Rattle.obstacle_boxes.proofs.Words.{arith, ints}
use Rattle.obstacle_boxes.proofs.leaves.box_round_two.Goals as goal

pub returns-clause-first : goal.returns-clause-first
returns-clause-first c =
    let left = c.min.ensures.self_bound in
    let bottom = c.min-2.ensures.self_bound in
    let right = c.max.ensures.self_bound in
    let top = c.max-2.ensures.self_bound in
    record { left = omega (arith, ints); right = omega (arith, ints); bottom = omega (arith, ints); top = omega (arith, ints) }

pub returns-clause-second : goal.returns-clause-second
returns-clause-second c =
    let left = c.min.ensures.other_bound in
    let bottom = c.min-2.ensures.other_bound in
    let right = c.max.ensures.other_bound in
    let top = c.max-2.ensures.other_bound in
    record { left = omega (arith, ints); right = omega (arith, ints); bottom = omega (arith, ints); top = omega (arith, ints) }
