use Rattle.obstacle_boxes.proofs.Words.{take, arith, take_all, All-more, All-weaker, Holds}
use Rattle.obstacle_boxes.proofs.HeldBoxes.{Holds-trans}
use Rattle.obstacle_boxes.proofs.leaves.box_round.Goals as goal

pub loop-leaf-preserved : goal.loop-leaf-preserved
loop-leaf-preserved c =
    let before = c.loop-leaf.bounds in
    let now = c.box_round_two-bounds.result in
    let i = c.loop-leaf.leaf-index in
    let leaves = c.args.leaves.now in
    All-more (λ leaf. Holds now leaf.bounds) leaves i _ (omega arith)
    (All-weaker (λ leaf. Holds before leaf.bounds) (λ leaf. Holds now leaf.bounds)
    (λ leaf h. Holds-trans now before leaf.bounds c.box_round_two-bounds.ensures.first h) (take i leaves) c.loop-leaf.invariant)
    c.box_round_two-bounds.ensures.second

pub returns : goal.returns
returns c = rw (take_all c.loop-leaf.leaf-index c.args.leaves.now (omega arith)) at c.loop-leaf.invariant
