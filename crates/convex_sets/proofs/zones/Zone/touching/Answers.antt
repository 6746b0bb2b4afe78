use Rattle.convex_sets.proofs.Words.{◌≡◌, ◌∙◌, map, arith, ints, LEAST_SUMMAND_COORDINATE, MOST_SUMMAND_COORDINATE, reflection, IsMerged}
use Rattle.convex_sets.proofs.Words.{IsOutlineOf}
use Rattle.convex_sets.proofs.ZoneLaws.{bounded_corners, bounded-reflected, shape-reflected, zone_is, zone_bounded}
use Rattle.convex_sets.proofs.zones.Zone.touching.Goals as goal

pub reflected-requires : goal.reflected-requires
reflected-requires c = bounded_corners LEAST_SUMMAND_COORDINATE MOST_SUMMAND_COORDINATE c.args.body.now (omega (arith, ints)) (omega (arith, ints))
    c.requires.body_within

pub outline-requires-clause-shape : goal.outline-requires-clause-shape
outline-requires-clause-shape c =
    let e : c.as_slice.result.now ≡ map reflection c.args.body.now = c.as_slice.ensures.value ∙ c.in_ok-reflected.ensures in
    rw e (shape-reflected c.args.body.now c.requires.body)

pub outline-requires-clause-bounded : goal.outline-requires-clause-bounded
outline-requires-clause-bounded c =
    let e : c.as_slice.result.now ≡ map reflection c.args.body.now = c.as_slice.ensures.value ∙ c.in_ok-reflected.ensures in
    rw e (bounded-reflected c.args.body.now
    (bounded_corners LEAST_SUMMAND_COORDINATE MOST_SUMMAND_COORDINATE c.args.body.now (omega (arith, ints)) (omega (arith, ints)) c.requires.body_within))

pub outline-requires-2-clause-bounded : goal.outline-requires-2-clause-bounded
outline-requires-2-clause-bounded c = bounded_corners LEAST_SUMMAND_COORDINATE MOST_SUMMAND_COORDINATE c.args.obstacle.now (omega (arith, ints))
    (omega (arith, ints)) c.requires.obstacle_within

pub from_corners-requires-clause-bounded : goal.from_corners-requires-clause-bounded
from_corners-requires-clause-bounded c =
    let e : c.as_slice.result.now ≡ map reflection c.args.body.now = c.as_slice.ensures.value ∙ c.in_ok-reflected.ensures in
    let second : IsOutlineOf (map reflection c.args.body.now) c.in_ok-body_outline.body_outline.items = rw e at c.in_ok-body_outline.ensures.corners in
    let merged : IsMerged c.in_ok-obstacle_outline.obstacle_outline.items c.in_ok-body_outline.body_outline.items c.in_ok-corners.corners.items = rw
    (c.as_slice-2.ensures.value, c.as_slice-3.ensures.value) at c.in_ok-corners.ensures in
    zone_bounded c.args.body.now c.args.obstacle.now c.in_ok-obstacle_outline.obstacle_outline.items c.in_ok-body_outline.body_outline.items
    c.in_ok-corners.corners.items c.in_ok-obstacle_outline.ensures.corners second merged c.requires.body_within c.requires.obstacle_within

pub returns : goal.returns
returns c =
    let e : c.as_slice.result.now ≡ map reflection c.args.body.now = c.as_slice.ensures.value ∙ c.in_ok-reflected.ensures in
    let second : IsOutlineOf (map reflection c.args.body.now) c.in_ok-body_outline.body_outline.items = rw e at c.in_ok-body_outline.ensures.corners in
    let merged : IsMerged c.in_ok-obstacle_outline.obstacle_outline.items c.in_ok-body_outline.body_outline.items c.in_ok-corners.corners.items = rw
    (c.as_slice-2.ensures.value, c.as_slice-3.ensures.value) at c.in_ok-corners.ensures in
    record {
      zone = rw c.from_corners.ensures
          (zone_is c.args.body.now c.args.obstacle.now c.in_ok-obstacle_outline.obstacle_outline.items c.in_ok-body_outline.body_outline.items
          c.in_ok-corners.corners.items c.in_ok-obstacle_outline.ensures.corners second merged c.requires.body_within c.requires.obstacle_within);
    }
