use Rattle.std.proofs.Common.{refl}
use Rattle.plan_model.proofs.SpanLaws.{BodyFits-from_in_room}
use Rattle.plan_model.specs.Spaces.Clearance.{ClearAt}
use Rattle.plan_model.specs.Spaces.ConfigurationSpace.{space_of}
use Rattle.session_example.proofs.session_of.Goals as goal

-- the start is clear, so it is in the room of configurations, and the body fits into the room
pub marks-requires : goal.marks-requires
marks-requires g c =
    let scene = c.args.scene in
    let clear : ClearAt (space_of scene) scene.start = rw c.in_ok-hall.ensures at (c.if-not-clear_at.ensures.0 refl) in
    record { fits = λ n drawn. BodyFits-from_in_room (space_of scene) scene.start clear.in_room }
