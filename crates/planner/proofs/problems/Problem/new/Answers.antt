use Rattle.grown_runs.proofs.Common.{BodyFits-from_in_room, space_of}
use Rattle.planner.proofs.problems.Problem.new.Goals as goal

-- the start is in the room of configurations, so the body fits into the room
pub marks-requires : goal.marks-requires
marks-requires c = record { fits = λ n drawn. BodyFits-from_in_room (space_of c.args.scene) c.args.scene.start c.requires.start.in_room }
