use Rattle.any_time.proofs.Words.{arith, length-marks}
use Rattle.any_time.proofs.growing.mark_count.Goals as goal

pub overflow_cast-result : goal.overflow_cast-result
overflow_cast-result c = omega (arith, length-marks c.task.result.now, c.len.ensures)
