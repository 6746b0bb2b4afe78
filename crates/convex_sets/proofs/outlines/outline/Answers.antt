use Rattle.convex_sets.proofs.Words.{List, Vertex, IsTurned}
use Rattle.convex_sets.proofs.Made.{IfOk-map}
use Rattle.convex_sets.proofs.Turned.{IsRound, IsRound-point, IsRound-polygon}
use Rattle.convex_sets.proofs.outlines.outline.Goals as goal
use Rattle.convex_sets.proofs.outlines.outline.Goals.{then-corners-eq1, else-corners-eq1}

round : (c : goal.After-turned) (r : List Vertex) → IsTurned c.args.corners.now r c.lowest-first.result c.if-corners-eq1.count → IsRound c.args.corners.now r
round c r turned =
    let corners = c.args.corners.now in
    let first = c.lowest-first.result in
    let low = c.lowest-first.ensures in
    let count = c.if-corners-eq1.count in
    elim c.if-corners-eq1.branch [
      | then-corners-eq1 w ↦ IsRound-point corners r first count w.if-corners-eq1.true w.count-is low.within c.requires.bounded turned
      | else-corners-eq1 w ↦
          IsRound-polygon corners r first count c.requires.shape w.if-corners-eq1.false w.count-is low.within low.lowest
          c.requires.bounded turned
    ]

pub returns : goal.returns
returns c =
    record {
      outline = IfOk-map c.turned.result _ _ c.turned.ensures (λ v t. (round c v.items t).outline);
      corners = IfOk-map c.turned.result _ _ c.turned.ensures (λ v t. (round c v.items t).same_corners);
      bounded = IfOk-map c.turned.result _ _ c.turned.ensures (λ v t. (round c v.items t).bounded);
    }
