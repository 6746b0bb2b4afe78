use Rattle.kd_shared.proofs.Words.{child_of_word, ChildOf, PointOf, point_in, sight_in, KeepsSight-lawful, PassLooks-trans}
use Rattle.kd_shared.proofs.LoadedChildren.{QueuesWithin-loaded}
use Rattle.kd_shared.proofs.Looking.{LoadsChild-child, LoadsPoint-point}
use Rattle.kd_shared.proofs.PassLooks.{PassLooks-load}
use Rattle.kd_shared.proofs.near_search.child_spot.Goals as goal

pub returns-clause-looks : goal.returns-clause-looks
returns-clause-looks c =
    let load = PassLooks-load c.args.shared.now c.args.pass.now c.child_or_start.new.pass (ChildOf c.args.spot.node c.args.right) _ _
    c.requires.belongs tt c.child_or_start.ensures.view c.child_or_start.ensures.goes_on c.child_or_start.ensures.seen
    c.child_or_start.ensures.looked c.child_or_start.ensures.whole in
    let look = PassLooks-load c.args.shared.now c.child_or_start.new.pass c.point_word-word.new.pass (PointOf c.child_within-node.result) _ _
    load.belongs tt c.point_word-word.ensures.view c.point_word-word.ensures.goes_on c.point_word-word.ensures.seen
    c.point_word-word.ensures.looked c.point_word-word.ensures.whole in
    PassLooks-trans c.args.shared.now c.args.pass.now c.child_or_start.new.pass c.point_word-word.new.pass load look

pub returns-clause-child : goal.returns-clause-child
returns-clause-child c =
    let before = c.args.pass.now.view in
    λ queue put same.
    QueuesWithin-loaded (sight_in before) (sight_in c.child_or_start.new.pass.view) (sight_in c.point_word-word.new.pass.view)
    (KeepsSight-lawful before c.requires.belongs.lawful) queue put c.args.spot c.args.right c.child_or_start.result c.child_within-node.result
    c.point_word-word.result
    (LoadsChild-child before c.child_or_start.new.pass.view c.args.spot.node c.child_or_start.ensures.goes_on c.args.right
    (child_of_word c.child_or_start.result) c.child_or_start.ensures.found c.child_or_start.ensures.seen.others)
    (LoadsPoint-point c.child_or_start.new.pass.view c.point_word-word.new.pass.view c.child_within-node.result c.point_word-word.ensures.goes_on
    (point_in c.point_word-word.result) c.point_word-word.ensures.found c.point_word-word.ensures.seen.others)
    c.args.within c.child_within-node.ensures same
