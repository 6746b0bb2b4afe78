use Rattle.std.proofs.Common.{ap, arith}
use Rattle.planner.proofs.KnownBytes.{came_count, left_count}
use Rattle.planner.proofs.read_laws.unfinished_reads_have_one_cause.Goals as goal

pub returns-clause-one_cause : goal.returns-clause-one_cause
returns-clause-one_cause c = λ before now bytes is long fault.
    let many = came_count before.bytes_left now.bytes_left bytes long.came.0 is long.came.2 in
    let few = came_count before.bytes_left now.bytes_left bytes fault.came.0 is fault.came.2 in omega arith

pub returns-clause-one_more : goal.returns-clause-one_more
returns-clause-one_more c = λ before now bytes rest is left long within.
    let many = came_count before.bytes_left now.bytes_left bytes long.came.0 is long.came.2 in
    let few = came_count before.bytes_left now.bytes_left bytes within.0 is within.2 in omega (arith, ap left_count left)
