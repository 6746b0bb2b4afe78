use Rattle.kd_shared.proofs.Words.{Some, None, refl, ◌∙◌, IsLaterMoment-trans, ChildOf, PointOf, point_in, sight_in, PassLooks-trans}
use Rattle.kd_shared.proofs.Looking.{LoadsChild-child, LoadsPoint-point}
use Rattle.kd_shared.proofs.PassLooks.{PassLooks-load}
use Rattle.kd_shared.proofs.nearest_search.child_spot.Goals as goal

pub returns-in_default-clause-loads : goal.returns-in_default-clause-loads
returns-in_default-clause-loads c =
    let load = LoadsChild-child c.args.pass.now.view c.child.new.pass.view c.args.spot.node c.child.ensures.goes_on c.args.right None
    c.in_default.ensures.found c.child.ensures.seen.others in
    record { later = load.later; keeps = load.keeps; finds = (load.finds, load.points) }

pub returns-clause-looks : goal.returns-clause-looks
returns-clause-looks c =
    let load = PassLooks-load c.args.shared.now c.args.pass.now c.child.new.pass (ChildOf c.args.spot.node c.args.right) _ _
    c.requires.belongs tt c.child.ensures.view c.child.ensures.goes_on c.child.ensures.seen c.child.ensures.looked c.child.ensures.whole in
    let look = PassLooks-load c.args.shared.now c.child.new.pass c.point_word-word.new.pass (PointOf c.in-Some.node) _ _
    load.belongs tt c.point_word-word.ensures.view c.point_word-word.ensures.goes_on c.point_word-word.ensures.seen
    c.point_word-word.ensures.looked c.point_word-word.ensures.whole in
    (PassLooks-trans c.args.shared.now c.args.pass.now c.child.new.pass c.point_word-word.new.pass load look).looks

pub returns-clause-loads : goal.returns-clause-loads
returns-clause-loads c =
    let load = LoadsChild-child c.args.pass.now.view c.child.new.pass.view c.args.spot.node c.child.ensures.goes_on c.args.right
    (Some c.in-Some.node) c.in-Some.ensures.found c.child.ensures.seen.others in
    let point = LoadsPoint-point c.child.new.pass.view c.point_word-word.new.pass.view c.in-Some.node c.point_word-word.ensures.goes_on
    (point_in c.point_word-word.result) c.point_word-word.ensures.found c.point_word-word.ensures.seen.others in
    record {
      later = IsLaterMoment-trans (sight_in c.args.pass.now.view) (sight_in c.child.new.pass.view) (sight_in c.point_word-word.new.pass.view)
          load.later point.later;
      keeps = point.keeps;
      finds = record {
        link = point.later.seen.places.children c.args.spot.node c.in-Some.node c.args.right load.finds;
        by_rows = refl;
        stands = point.stands;
        others = λ n apart. point.others n apart ∙ load.points n;
      };
    }
