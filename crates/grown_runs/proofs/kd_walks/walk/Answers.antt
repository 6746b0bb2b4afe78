use Rattle.grown_runs.proofs.Words.{sym, ◌∙◌, subst, same_point-false, StopsAt}
use Rattle.grown_runs.proofs.Ways.WalkStops.{StopsAt-below, StopsAt-fills, StopsAt-root}
use Rattle.grown_runs.proofs.kd_walks.walk.Goals as goal

pub way-init : goal.way-init
way-init g c = record {
  may = c.point.ensures.may;
  looks = c.point.ensures.looks;
  stops = subst (StopsAt (g.T.KdTree.seen c.args.tree.now c.point.new.looks) c.args.p) (sym c.root-stop.ensures)
      (StopsAt-root (g.T.KdTree.seen c.args.tree.now c.point.new.looks) c.args.p c.point.result c.point.ensures.stands);
}

-- the last look finds no child
pub returns-in_default-clause-stops : goal.returns-in_default-clause-stops
returns-in_default-clause-stops g c =
    StopsAt-fills (g.T.KdTree.seen c.args.tree.now c.way.looks) c.args.p c.way.stop c.way.invariant.stops
    (g.T.KdTree.seen c.args.tree.now c.child.new.looks)
    (g.met.T.KdTree.keeps_seen c.args.tree.now c.way.looks c.child.new.looks c.in_default.ensures.looks)

-- or one, whose point is looked at next
pub way-preserved : goal.way-preserved
way-preserved g c =
    let tree = c.args.tree.now in
    record {
      may = c.point-in-way.ensures.may;
      looks = g.met.T.KdTree.looks_on tree c.args.looks.now c.child.new.looks c.point-in-way.new.looks
          (g.met.T.KdTree.looks_on tree c.args.looks.now c.way.looks c.child.new.looks c.way.invariant.looks c.in-Some.ensures.looks)
          c.point-in-way.ensures.looks;
      stops = StopsAt-below (g.T.KdTree.seen tree c.way.looks) c.args.p c.way.stop c.way.invariant.stops
          (same_point-false c.way.stop.here c.args.p (sym c.eq.ensures ∙ c.if-eq.false)) c.leads_right.result c.leads_right.ensures
          (g.T.KdTree.seen tree c.child.new.looks) (g.T.KdTree.seen tree c.point-in-way.new.looks)
          (g.met.T.KdTree.keeps_seen tree c.way.looks c.child.new.looks c.in-Some.ensures.looks) c.in-Some.child c.in-Some.ensures.child
          (g.met.T.KdTree.keeps_seen tree c.child.new.looks c.point-in-way.new.looks c.point-in-way.ensures.looks) c.point-in-way.result
          c.point-in-way.ensures.stands c.next-stop.result c.next-stop.ensures;
    }
