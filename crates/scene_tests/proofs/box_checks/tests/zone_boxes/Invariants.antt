use Rattle.scene_tests.proofs.ZoneBoxes.{AreFirstBoxes}
use Rattle.scene_tests.proofs.box_checks.tests.zone_boxes.Given as goal

abbrev pub invariant-loop-zone : goal.invariant-loop-zone
invariant-loop-zone l = AreFirstBoxes l.zone-items l.all.items l.zone-index
