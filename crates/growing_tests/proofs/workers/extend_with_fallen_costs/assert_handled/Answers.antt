use Rattle.growing_tests.proofs.Words.{arith, length-marks}
use Rattle.growing_tests.proofs.workers.extend_with_fallen_costs.assert_handled.Goals as goal

pub overflow_cast-limit : goal.overflow_cast-limit
overflow_cast-limit g c = omega (arith, c.requires.marks, length-marks c.args.shared.now.task)
