-- A walk of a pass that has only looked has stopped at a node of the way of a point: the way ends there, or leads on.
use Rattle.kd_shared.proofs.Words.{◌≡◌, ◌<◌, None, sym, subst, ◌≢◌, Point, EndsSince, IsFree, IsFree-ends, side_of, StopsAt, EndsBelow-stop, side_is, LeadsTo}
use Rattle.kd_shared.proofs.Words.{sight_in, tree_seen, IsLaterMoment-later, KeepsSight-lawful, IsFree-here, Stop, View, FindsEmpty, OnlyLooks}

module _ (entry now : View) (p : Point) (stop : Stop) (looks : OnlyLooks entry now) (stops : StopsAt (tree_seen now) p stop)
    (apart : stop.here ≢ p) where
  -- The way of p leads on from there.
  pub LeadsTo-stop : LeadsTo now p stop.node (side_of stop p)
  LeadsTo-stop = record {
    depth = stop.depth;
    at = stop.here;
    on_way = stops.on_way;
    stands = stops.stands;
    apart = apart;
    side_is = sym (side_is (tree_seen now) p stop stops);
  }

  -- If no child was found there, it ends at a place that was found empty since,
  pub EndsSince-stop : FindsEmpty (sight_in entry) (sight_in now) stop.node (side_of stop p) → EndsSince (sight_in now) entry.steps p
  EndsSince-stop empty = record {
    depth = stop.depth;
    node = stop.node;
    point = stop.here;
    on_way = stops.on_way;
    stands = stops.stands;
    other = apart;
    empty = subst (λ side. entry.steps < (sight_in now).found_empty stop.node side) (side_is (tree_seen now) p stop stops) empty;
  }

  -- no node was seen at p before,
  pub IsFree-before : FindsEmpty (sight_in entry) (sight_in now) stop.node (side_of stop p) → IsFree (tree_seen entry).points p
  IsFree-before empty =
      IsFree-ends (sight_in entry) (sight_in now) (IsLaterMoment-later entry now looks.looks.goes_on.later)
      (KeepsSight-lawful entry looks.looks.goes_on.was_lawful) (KeepsSight-lawful now looks.looks.goes_on.lawful) p (EndsSince-stop empty)

  -- and if none is seen there, no node is seen at p.
  pub IsFree-now : (tree_seen now).child stop.node (side_of stop p) ≡ None → IsFree (tree_seen now).points p
  IsFree-now none =
      IsFree-here (sight_in now) (KeepsSight-lawful now looks.looks.goes_on.lawful) p stop.depth stop.node stop.here
      (EndsBelow-stop (tree_seen now) p stop stops apart none)
