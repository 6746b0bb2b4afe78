use Rattle.std.proofs.Common.{◌≡◌, ◌<◌, ◌≤◌, [], length, get_or, refl, ap, arith, ◌∙◌, take_all}
use Rattle.std.proofs.lemmas.List.{get_or_default, take_more}
use Rattle.plan_model.proofs.configuration_spaces.ConfigurationSpace.of.Goals as goal

pub loop-obstacle-preserved : goal.loop-obstacle-preserved
loop-obstacle-preserved c =
    let scene = c.args.scene.now in
    let i = c.loop-obstacle.obstacle-index in
    let items = c.as_slice-obstacle-items.ensures in
    let within : i < length c.as_slice-obstacle-items.result.now = omega arith in
    let l : i < length scene.obstacles = rw items at within in
    let item : c.obstacle-item.result ≡ get_or c.as_slice-obstacle-items.result.now i [] = c.obstacle-item.is ∙ get_or_default _ i _ [] within in
    let is : c.obstacle-item.result ≡ get_or scene.obstacles i [] = rw items at item in
    let copy = c.in_ok-push.ensures.items in
    rw (c.loop-obstacle.invariant, c.in_ok-copied.ensures, is, ← take_more scene.obstacles i [] l) at copy

pub returns : goal.returns
returns c =
    let obstacles = c.args.scene.now.obstacles in
    let all : length obstacles ≤ c.loop-obstacle.obstacle-index = omega (arith, ap length c.as_slice-obstacle-items.ensures, c.loop-obstacle-test.false) in
    let copies = c.from_vec.ensures ∙ c.loop-obstacle.invariant ∙ take_all c.loop-obstacle.obstacle-index obstacles all in
    rw (c.in_ok-copied-2.ensures, copies) refl
