use Rattle.std.proofs.Common.{length, ap, arith, refl}
use Rattle.plan_model.proofs.MarkBounds.{length-points_of_marks}
use Rattle.plan_model.proofs.SpanLaws.{BodyFits-from_in_room}
use Rattle.plan_model.specs.Spaces.Clearance.{ClearAt}
use Rattle.plan_model.specs.Spaces.ConfigurationSpace.{space_of}
use Rattle.plan_example.proofs.cheapest_path.Goals as goal

-- the start is clear, so it is in the room of configurations, and the body fits into the room
pub marks-requires : goal.marks-requires
marks-requires g c =
    let scene = c.args.scene in
    let clear : ClearAt (space_of scene) scene.start = rw c.in_ok-hall.ensures at (c.if-not-clear_at.ensures.0 refl) in
    record { fits = λ n drawn. BodyFits-from_in_room (space_of scene) scene.start clear.in_room }

-- there are at most 262,143 marks
pub overflow_cast-limit : goal.overflow_cast-limit
overflow_cast-limit g c =
    let few = length-points_of_marks c.args.scene c.args.scene.plan c.args.scene.plan_within in
    omega (arith, few, ap length c.in_ok-marks.ensures.value, c.len-limit.ensures)
