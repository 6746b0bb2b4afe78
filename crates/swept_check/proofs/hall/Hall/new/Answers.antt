use Rattle.swept_check.proofs.Words.{◌≡◌, ◌<◌, [], length, get_or, arith, ◌∙◌, get_or_default, space_of, clearance-counted}
use Rattle.swept_check.proofs.SceneSummands.{obstacle_within, AreFirstZones-more}
use Rattle.swept_check.proofs.hall.Hall.new.Goals as goal

pub sum-requires-clause-obstacle_within : goal.sum-requires-clause-obstacle_within
sum-requires-clause-obstacle_within c =
    let scene = c.args.scene.now in
    let i = c.loop-obstacle.obstacle-index in
    let items = c.as_slice-obstacle-items.ensures in
    let within : i < length c.as_slice-obstacle-items.result.now = omega arith in
    let l : i < length scene.obstacles = rw items at within in
    let item : c.obstacle-item.result ≡ get_or c.as_slice-obstacle-items.result.now i [] = c.obstacle-item.is ∙ get_or_default _ i _ [] within in
    let is : c.obstacle-item.result ≡ get_or scene.obstacles i [] = rw items at item in
    rw is (obstacle_within scene.version scene.obstacles i scene.obstacles_within l)

pub sum-requires-clause-clearance : goal.sum-requires-clause-clearance
sum-requires-clause-clearance c = clearance-counted c.args.scene.now

pub loop-obstacle-preserved : goal.loop-obstacle-preserved
loop-obstacle-preserved c =
    let scene = c.args.scene.now in
    let i = c.loop-obstacle.obstacle-index in
    let items = c.as_slice-obstacle-items.ensures in
    let within : i < length c.as_slice-obstacle-items.result.now = omega arith in
    let l : i < length scene.obstacles = rw items at within in
    let item : c.obstacle-item.result ≡ get_or c.as_slice-obstacle-items.result.now i [] = c.obstacle-item.is ∙ get_or_default _ i _ [] within in
    let is : c.obstacle-item.result ≡ get_or scene.obstacles i [] = rw items at item in
    AreFirstZones-more (space_of scene) c.loop-obstacle.zones.items c.push.new.self.items i _ c.loop-obstacle.invariant c.in_ok-push.ensures.items
    (rw is at c.in_ok-sum.ensures.zone)
