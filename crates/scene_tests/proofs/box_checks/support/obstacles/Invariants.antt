use Rattle.std.proofs.Common.{◌≡◌, take}
use Rattle.scene_tests.proofs.box_checks.support.obstacles.Given as goal

abbrev pub invariant-loop-four : goal.invariant-loop-four
invariant-loop-four g l = l.polys.items ≡ take l.four-index l.corners
