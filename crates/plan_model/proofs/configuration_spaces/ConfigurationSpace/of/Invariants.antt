use Rattle.std.proofs.Common.{◌≡◌, take}
use Rattle.plan_model.proofs.configuration_spaces.ConfigurationSpace.of.Given as goal

abbrev pub invariant-loop-obstacle : goal.invariant-loop-obstacle
invariant-loop-obstacle l = l.obstacles.items ≡ take l.obstacle-index l.scene.obstacles
