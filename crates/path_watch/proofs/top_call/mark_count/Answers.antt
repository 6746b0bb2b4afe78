use Rattle.path_watch.proofs.Words.{length, ap, arith, length-points_of_marks}
use Rattle.path_watch.proofs.top_call.mark_count.Goals as goal

pub overflow_cast-result : goal.overflow_cast-result
overflow_cast-result c =
    let few = length-points_of_marks c.args.task.now.scene c.args.task.now.scene.plan c.args.task.now.scene.plan_within in
    omega (arith, few, ap length c.args.task.now.of_scene, c.len.ensures)

pub returns-clause-most : goal.returns-clause-most
returns-clause-most c =
    let few = length-points_of_marks c.args.task.now.scene c.args.task.now.scene.plan c.args.task.now.scene.plan_within in
    omega (arith, few, ap length c.args.task.now.of_scene, c.len.ensures)
