use Rattle.kd_shared.proofs.Words.{◌≡◌, refl, sym, ap, subst, ◌∙◌, arith, IsSome, same_point-false, same_point-true, PointOf, StopsAt-below, LeadsTo, SeesPoint}
use Rattle.kd_shared.proofs.Words.{tree_seen, Stop, PassLooks-fills, PassLooks-short, PassLooks-trans}
use Rattle.kd_shared.proofs.Finding.{LeadsTo-stop}
use Rattle.kd_shared.proofs.PassLooks.{PassLooks-load, PassLooks-met}
use Rattle.kd_shared.proofs.LinkedSights.{IfSome-all, IfSome-free, IfSome-sees_linked}
use Rattle.kd_shared.proofs.PlacedNodes.{IsBounded-held, IfSome-kept, IfSome-leads, IfSome-placed}
use Rattle.kd_shared.proofs.PlacedNodes.{IfSome-since, PassPlaces, PassPlaces-links, PassPlaces-looks}
use Rattle.kd_shared.proofs.placing.place.Goals as goal

pub walk_by_words-stop-requires-clause-bounded : goal.walk_by_words-stop-requires-clause-bounded
walk_by_words-stop-requires-clause-bounded c =
    IsBounded-held c.args.pass.now.view c.hand_point-p.result c.requires.belongs.lawful c.args.pass.now.view.hand refl c.requires.hand
    c.hand_point-p.ensures c.requires.treed

-- another node has the point
pub returns-then-eq-clause-whole : goal.returns-then-eq-clause-whole
returns-then-eq-clause-whole c = λ all.
    IfSome-free _ c.args.pass.now.view c.depths.pass.view c.hand_point-p.result c.depths.stop.node c.args.pass.now.view.hand all
    c.depths.invariant.passes.looks c.hand_point-p.ensures
    (subst (SeesPoint c.depths.pass.view c.depths.stop.node) (same_point-true c.depths.stop.here c.hand_point-p.result (sym c.eq.ensures ∙ c.if-eq.true))
    c.depths.invariant.stops.stands)

pub returns-then-eq-clause-whole_seen : goal.returns-then-eq-clause-whole_seen
returns-then-eq-clause-whole_seen c = λ all. IfSome-all c.args.pass.now.view.hand (λ hand. c.depths.invariant.passes.looks.whole all)

-- the way leads to this node
pub link-requires-clause-leads : goal.link-requires-clause-leads
link-requires-clause-leads c =
    IfSome-leads c.depths.pass.view c.hand_point-p.result c.depths.stop.node c.leads_right.result c.depths.pass.view.hand
    (IfSome-kept c.args.pass.now.view c.depths.pass.view (λ hand. c.hand_point-p.result ≡ hand.point) c.depths.invariant.passes.looks
    c.hand_point-p.ensures)
    (subst (LeadsTo c.depths.pass.view c.hand_point-p.result c.depths.stop.node) (sym c.leads_right.ensures)
    (LeadsTo-stop c.args.pass.now.view c.depths.pass.view c.hand_point-p.result c.depths.stop c.depths.invariant.passes.looks
    c.depths.invariant.stops (same_point-false c.depths.stop.here c.hand_point-p.result (sym c.eq.ensures ∙ c.if-eq.false))))

-- it is linked there
leads_there : (c : goal.In_default) → LeadsTo c.depths.pass.view c.hand_point-p.result c.depths.stop.node c.leads_right.result
leads_there c =
    subst (LeadsTo c.depths.pass.view c.hand_point-p.result c.depths.stop.node) (sym c.leads_right.ensures)
    (LeadsTo-stop c.args.pass.now.view c.depths.pass.view c.hand_point-p.result c.depths.stop c.depths.invariant.passes.looks
    c.depths.invariant.stops (same_point-false c.depths.stop.here c.hand_point-p.result (sym c.eq.ensures ∙ c.if-eq.false)))

places_there : (c : goal.In_default) → PassPlaces c.args.shared.now c.args.pass.now c.link.new.pass
places_there c =
    PassPlaces-looks c.args.shared.now c.args.pass.now c.depths.pass c.link.new.pass c.depths.invariant.passes
    (PassPlaces-links c.args.shared.now c.depths.pass c.link.new.pass c.depths.stop.node c.leads_right.result c.depths.invariant.passes.belongs
    (subst IsSome (sym c.depths.invariant.passes.looks.kept.hand) c.requires.hand) c.in_default.ensures.view c.link.ensures.goes_on
    c.link.ensures.others)

pub returns-in_default : goal.returns-in_default
returns-in_default c = record {
  belongs = (places_there c).belongs;
  goes_on = (places_there c).goes_on;
  share = (places_there c).share;
  view_alone = (places_there c).view_alone;
  placed = IfSome-placed c.depths.pass.view c.link.new.pass.view c.hand_point-p.result c.depths.stop.node c.leads_right.result
      c.args.pass.now.view.hand c.depths.invariant.passes.looks.kept.hand c.hand_point-p.ensures c.in_default.ensures.linked
      c.in_default.ensures.on_way (leads_there c);
  since = IfSome-since c.args.pass.now.view c.depths.pass c.link.new.pass c.depths.stop.node c.leads_right.result c.args.pass.now.view.hand
      c.depths.invariant.passes.looks.looks.goes_on c.depths.invariant.passes.looks.kept.hand c.in_default.ensures.linked c.link.ensures.looked
      c.in_default.ensures.view;
  whole = λ all. IfSome-all c.args.pass.now.view.hand (λ hand free. refl);
  whole_seen = λ all.
      IfSome-sees_linked c.args.pass.now.view c.depths.pass c.link.new.pass c.depths.stop.node c.leads_right.result c.args.pass.now.view.hand all
      c.depths.invariant.passes.looks c.link.ensures.goes_on c.depths.invariant.passes.looks.kept.hand c.requires.treed
      (IfSome-leads c.depths.pass.view c.hand_point-p.result c.depths.stop.node c.leads_right.result c.args.pass.now.view.hand c.hand_point-p.ensures
      (leads_there c))
      c.in_default.ensures.view;
}

-- or a child is there
pub point-here-requires-clause-belongs : goal.point-here-requires-clause-belongs
point-here-requires-clause-belongs c =
    (PassLooks-met c.args.shared.now c.depths.pass c.link.new.pass c.depths.stop.node c.leads_right.result c.in-Err.child
    c.depths.invariant.passes.belongs c.depths.invariant.stops.seen c.in-Err.ensures.view_found c.link.ensures.goes_on
    c.in-Err.ensures.others_found c.link.ensures.looked c.in-Err.ensures.whole_found).belongs

pub depths-preserved : goal.depths-preserved
depths-preserved c =
    let fails = PassLooks-met c.args.shared.now c.depths.pass c.link.new.pass c.depths.stop.node c.leads_right.result c.in-Err.child
    c.depths.invariant.passes.belongs c.depths.invariant.stops.seen c.in-Err.ensures.view_found c.link.ensures.goes_on
    c.in-Err.ensures.others_found c.link.ensures.looked c.in-Err.ensures.whole_found in
    let look = PassLooks-load c.args.shared.now c.link.new.pass c.point-here.new.pass (PointOf c.in-Err.child) _ _
    fails.belongs tt c.point-here.ensures.view c.point-here.ensures.goes_on c.point-here.ensures.seen c.point-here.ensures.looked
    c.point-here.ensures.whole in
    record {
      passes = PassLooks-trans c.args.shared.now c.args.pass.now c.depths.pass c.point-here.new.pass c.depths.invariant.passes
          (PassLooks-trans c.args.shared.now c.depths.pass c.link.new.pass c.point-here.new.pass fails look);
      stops = StopsAt-below (tree_seen c.depths.pass.view) c.hand_point-p.result c.depths.stop c.depths.invariant.stops
          (same_point-false c.depths.stop.here c.hand_point-p.result (sym c.eq.ensures ∙ c.if-eq.false)) c.leads_right.result c.leads_right.ensures
          (tree_seen c.link.new.pass.view) (tree_seen c.point-here.new.pass.view)
          (PassLooks-fills c.args.shared.now c.depths.pass c.link.new.pass fails) c.in-Err.child c.in-Err.ensures.found.0
          (PassLooks-fills c.args.shared.now c.link.new.pass c.point-here.new.pass look) c.point-here.result c.point-here.ensures.found
          c.next-stop.result c.next-stop.ensures;
    }

-- no way is longer than there are nodes
pub next-stop-requires : goal.next-stop-requires
next-stop-requires c =
    PassLooks-short c.args.shared.now c.args.pass.now c.depths.pass c.hand_point-p.result c.depths.stop.depth c.depths.stop.node
    c.depths.invariant.passes c.depths.invariant.stops.on_way

pub depths-smaller : goal.depths-smaller
depths-smaller c =
    let short = PassLooks-short c.args.shared.now c.args.pass.now c.depths.pass c.hand_point-p.result c.depths.stop.depth c.depths.stop.node
    c.depths.invariant.passes c.depths.invariant.stops.on_way in
    omega (arith, short, ap (λ (s : Stop). s.depth) c.next-stop.ensures)
