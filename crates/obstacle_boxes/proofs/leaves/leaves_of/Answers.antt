use Rattle.obstacle_boxes.proofs.Words.{◌≡◌, [], get_or, refl, arith, ◌∙◌, get_or_default}
use Rattle.obstacle_boxes.proofs.LeafLists.{AreLeavesOf-push}
use Rattle.obstacle_boxes.proofs.leaves.leaves_of.Goals as goal

pub loop-i-preserved : goal.loop-i-preserved
loop-i-preserved c =
    let is : c.index-zones-i.result ≡ get_or c.args.zones.now c.loop-i.i [] = c.index-zones-i.is ∙ get_or_default _ c.loop-i.i _ [] (omega arith) in
    AreLeavesOf-push c.args.zones.now c.loop-i.i c.loop-i.leaves.items c.push.new.self.items _ c.loop-i.invariant c.in_ok-push.ensures.items refl
    (rw is at c.bounding_box.ensures)
