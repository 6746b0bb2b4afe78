use Rattle.std.proofs.Common.{◌≡◌, [], get_or, arith, ◌∙◌}
use Rattle.std.proofs.lemmas.List.{get_or_default}
use Rattle.scene_tests.proofs.ZoneBoxes.{AreFirstBoxes-push}
use Rattle.scene_tests.proofs.box_checks.tests.zone_boxes.Goals as goal

pub loop-zone-preserved : goal.loop-zone-preserved
loop-zone-preserved c =
    let i = c.loop-zone.zone-index in
    let zones = c.zones-zone-items.result.now in
    let is : c.zone-item.result ≡ get_or zones i [] = c.zone-item.is ∙ get_or_default zones i _ [] c.loop-zone-test.true in
    AreFirstBoxes-push zones c.loop-zone.all.items c.push.new.self.items i c.bounding_box.result c.loop-zone.invariant c.in_ok-push.ensures.items
    (rw is at c.bounding_box.ensures)

pub returns : goal.returns
returns c =
    let count = c.loop-zone.invariant.count in
    record {
      zones = c.zones-zone-items.result.now;
      are_zones = c.zones-zone-items.ensures;
      count = omega arith;
      each = λ i d l. c.loop-zone.invariant.each i d (omega arith);
    }
