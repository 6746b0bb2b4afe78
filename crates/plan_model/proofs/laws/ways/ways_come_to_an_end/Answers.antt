use Rattle.plan_model.proofs.WayLaws.{IsOnWay-present, EndsBelow-free, way_stops}
use Rattle.plan_model.proofs.WayLengths.{depth_below, way_comes_to, way_comes_to_end}
use Rattle.plan_model.proofs.laws.ways.ways_come_to_an_end.Goals as goal

pub returns-clause-present : goal.returns-clause-present
returns-clause-present c =
    λ child points follow start q depth n way.
    (IsOnWay-present child points follow q depth n start way, depth_below child points follow start q depth n way)

pub returns-clause-either : goal.returns-clause-either
returns-clause-either c = way_comes_to

pub returns-clause-ends : goal.returns-clause-ends
returns-clause-ends c = way_comes_to_end

pub returns-clause-stops : goal.returns-clause-stops
returns-clause-stops c = way_stops

pub returns-clause-free : goal.returns-clause-free
returns-clause-free c = EndsBelow-free
