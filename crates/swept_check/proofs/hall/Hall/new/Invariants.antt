use Rattle.plan_model.specs.Spaces.ConfigurationSpace.{space_of}
use Rattle.swept_check.proofs.SceneSummands.{AreFirstZones}
use Rattle.swept_check.proofs.hall.Hall.new.Given as goal

abbrev pub invariant-loop-obstacle : goal.invariant-loop-obstacle
invariant-loop-obstacle l =
    AreFirstZones (space_of l.scene) l.zones.items l.obstacle-index
