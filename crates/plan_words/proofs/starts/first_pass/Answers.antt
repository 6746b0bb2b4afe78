use Rattle.std.proofs.Common.{arith}
use Rattle.plan_words.proofs.starts.first_pass.Goals as goal

pub invariant_of-result : goal.invariant_of-result
invariant_of-result c =
    let room = c.in_ok-lists.ensures.room in
    let nodes = c.len.ensures in (
      c.requires.slots,
      c.requires.tied,
      record {
        spots = omega (arith, room.0, nodes, c.requires.pairs.for_each);
        near = omega (arith, room.1, nodes, c.requires.pairs.for_each);
        around = omega (arith, room.2, nodes, c.requires.pairs.for_each);
        waiting = omega (arith, room.3, nodes, c.requires.pairs.for_each);
      },
      c.requires.pairs,
    )
