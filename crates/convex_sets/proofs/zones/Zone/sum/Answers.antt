use Rattle.convex_sets.proofs.Words.{arith, ints, LEAST_BODY_COORDINATE, LEAST_SUMMAND_COORDINATE, MOST_BODY_COORDINATE, MOST_SUMMAND_COORDINATE}
use Rattle.convex_sets.proofs.Made.{IfOk-map}
use Rattle.convex_sets.proofs.WidenedBodies.{zone_of_wider}
use Rattle.convex_sets.proofs.ZoneLaws.{between_wider}
use Rattle.convex_sets.proofs.zones.Zone.sum.Goals as goal

pub touching-requires-clause-body_within : goal.touching-requires-clause-body_within
touching-requires-clause-body_within c =
    rw c.as_slice.ensures (between_wider LEAST_BODY_COORDINATE MOST_BODY_COORDINATE LEAST_SUMMAND_COORDINATE MOST_SUMMAND_COORDINATE c.args.body.now
    (omega (arith, ints)) (omega (arith, ints)) c.requires.body_within)

pub returns : goal.returns
returns c =
    let made = rw (c.as_slice-3.ensures.value, c.as_slice-4.ensures) at c.touching-2.ensures.zone in
    let wider = rw c.as_slice-2.ensures at c.in_ok-wider.ensures.widened in
    record {
      zone = IfOk-map c.touching-2.result _ _ made (λ zone of_wider.
          zone_of_wider c.args.clearance c.args.body.now c.in_ok-wider.wider.items c.args.obstacle.now _ wider of_wider);
    }
