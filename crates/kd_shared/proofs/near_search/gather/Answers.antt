use Rattle.kd_shared.proofs.Words.{◌≡◌, ◌<◌, ◌+◌, ◌∷◌, ◌++◌, [], false, true, arith, refl, ap, ◌∙◌, subst, IsFalse, nat_le}
use Rattle.kd_shared.proofs.Words.{point_of_spot, PassState, with_lists, Spot, squared_distance, PointOf, side_distance}
use Rattle.kd_shared.proofs.Looking.{LoadsPoint-point, SeesNode-later}
use Rattle.kd_shared.proofs.NearPasses.{fewer_left, IsGatheringPass-begins, IsGatheringPass-ends, IsGatheringPass-visits, LoadsBoth, note_within, noted_seen}
use Rattle.kd_shared.proofs.NearPasses.{NotesSpot, one_more, room_first, room_last, with_child}
use Rattle.kd_shared.proofs.PassLooks.{PassLooks-load}
use Rattle.kd_shared.proofs.near_search.gather.Goals as goal
use Rattle.kd_shared.proofs.near_search.gather.Goals.{After-child_spot-right_child, After-from-count, After-put_spot_if-in-Some}
use mir.Val.{bool_byte}

pub visits-init : goal.visits-init
visits-init c =
    let spot : Spot = record { node = 0; by_rows = false; word = c.point_word-start.result } in
    let first = PassLooks-load c.args.shared.now c.args.pass.now c.point_word-start.new.pass (PointOf 0) _ _ c.requires.belongs tt
    c.point_word-start.ensures.view c.point_word-start.ensures.goes_on c.point_word-start.ensures.seen
    c.point_word-start.ensures.looked c.point_word-start.ensures.whole in
    let load = LoadsPoint-point c.args.pass.now.view c.point_word-start.new.pass.view 0 c.point_word-start.ensures.goes_on (point_of_spot spot)
    c.point_word-start.ensures.found c.point_word-start.ensures.seen.others in
    let cleared = c.clear_search.ensures.others ∙ ap (with_lists c.point_word-start.new.pass) c.clear_search.ensures.search in
    let alone = c.put_spot_if.ensures.others
    ∙ ap (with_lists c.clear_search.new.self) c.put_spot_if.ensures.put
    ∙ ap (λ (s : PassState). with_lists s (record s.lists { search = record s.lists.search { spots = s.lists.search.spots ++ spot ∷ [] } })) cleared in
    record {
      most_is = c.square-most.ensures;
      gathers = IsGatheringPass-begins c.args.shared.now c.args.pass.now c.point_word-start.new.pass c.put_spot_if.new.self c.args.p c.args.r spot first load
          alone refl refl;
    }

-- ---- nothing waits

pub returns : goal.returns
returns c =
    let ends = IsGatheringPass-ends c.visits.invariant.gathers (c.spot.ensures ∙ c.in_default.is)
    (c.end_search.ensures.others ∙ ap (with_lists c.visits.pass) c.end_search.ensures.ended) in
    record { belongs = ends.belongs; looks = ends.looks; lists = ends.lists; gathered = ends.gathered; few = ends.few }

-- ---- a spot is visited

pub overflow_add-taken : goal.overflow_add-taken
overflow_add-taken c =
    let fewer = fewer_left c.visits.invariant.gathers (c.spot.ensures ∙ c.in-Some.is) in
    omega (arith, fewer, c.visits.invariant.gathers.looks.looks.goes_on.was_lawful.run.marks)

-- and noted if it is near

pub note-requires-clause-within : goal.note-requires-clause-within
note-requires-clause-within c = note_within c.visits.invariant.gathers (c.spot.ensures ∙ c.in-Some.is)

notes : (c : After-from-count) → NotesSpot c.visits.pass c.note.new.self c.in-Some.spot c.args.p c.args.r c.visits.count
    (c.visits.count + c.from-count.result)
notes c = record {
  distance = c.squared_distance-distance.result;
  distance_is = c.squared_distance-distance.ensures.value ∙ ap (λ p. squared_distance p c.args.p) c.point-here.ensures;
  same = c.note.ensures.others ∙ ap (with_lists c.visits.pass) c.note.ensures.noted;
  next_is = ap (λ n. c.visits.count + n) c.from-count.ensures
      ∙ ap (λ m. c.visits.count + bool_byte (nat_le c.squared_distance-distance.result m)) c.visits.invariant.most_is;
}

pub overflow_add-count : goal.overflow_add-count
overflow_add-count c =
    let at = goal.at.overflow_add-count c in
    let one = one_more c.visits.invariant.gathers (c.spot.ensures ∙ c.in-Some.is) (notes at.After-from-count) in
    let fewer = fewer_left c.visits.invariant.gathers (c.spot.ensures ∙ c.in-Some.is) in
    omega (arith, one, fewer, c.visits.invariant.gathers.behind, c.visits.invariant.gathers.looks.looks.goes_on.was_lawful.run.marks)

-- its children are loaded, if their sides are within the radius

loads : (c : After-child_spot-right_child) → LoadsBoth c.args.shared.now c.note.new.self c.child_spot-right_child.new.pass c.args.p c.args.r
    c.in-Some.spot c.child_spot-left_child.result c.child_spot-right_child.result
loads c = record {
  one = c.child_spot-left_child.new.pass;
  first_within = c.sides_within-left.result.0;
  last_within = c.sides_within-left.result.1;
  first_passes = c.child_spot-left_child.ensures.looks;
  last_passes = c.child_spot-right_child.ensures.looks;
  first_is = subst (λ p. IsFalse c.sides_within-left.result.0 → c.args.r < side_distance c.in-Some.spot.by_rows p c.args.p false)
      c.point-here.ensures c.sides_within-left.ensures.left;
  last_is = subst (λ p. IsFalse c.sides_within-left.result.1 → c.args.r < side_distance c.in-Some.spot.by_rows p c.args.p true)
      c.point-here.ensures c.sides_within-left.ensures.right;
  first_child = c.child_spot-left_child.ensures.child;
  last_child = c.child_spot-right_child.ensures.child;
}

pub child_spot-left_child-requires-clause-seen : goal.child_spot-left_child-requires-clause-seen
child_spot-left_child-requires-clause-seen c =
    let at = goal.at.child_spot-left_child-requires-clause-seen c in
    noted_seen c.visits.invariant.gathers (c.spot.ensures ∙ c.in-Some.is) (notes at.After-from-count)

pub child_spot-right_child-requires-clause-seen : goal.child_spot-right_child-requires-clause-seen
child_spot-right_child-requires-clause-seen c =
    let at = goal.at.child_spot-right_child-requires-clause-seen c in
    SeesNode-later c.note.new.self.view c.child_spot-left_child.new.pass.view c.in-Some.spot.node
    c.child_spot-left_child.ensures.looks.looks.looks.goes_on.later
    (noted_seen c.visits.invariant.gathers (c.spot.ensures ∙ c.in-Some.is) (notes at.After-from-count))

-- and wait

left_is : (c : After-put_spot_if-in-Some) → c.put_spot_if-in-Some.new.self ≡ with_child c.child_spot-left_child.result c.child_spot-right_child.new.pass
left_is c = c.put_spot_if-in-Some.ensures.others ∙ ap (with_lists c.child_spot-right_child.new.pass) c.put_spot_if-in-Some.ensures.put

pub put_spot_if-requires-in-Some : goal.put_spot_if-requires-in-Some
put_spot_if-requires-in-Some c =
    let at = goal.at.put_spot_if-requires-in-Some c in
    room_first c.visits.invariant.gathers (c.spot.ensures ∙ c.in-Some.is) (notes at.After-from-count)
    (loads at.After-child_spot-right_child)

pub put_spot_if-requires-in-Some-2 : goal.put_spot_if-requires-in-Some-2
put_spot_if-requires-in-Some-2 c =
    let at = goal.at.put_spot_if-requires-in-Some-2 c in
    room_last c.visits.invariant.gathers (c.spot.ensures ∙ c.in-Some.is) (notes at.After-from-count)
    (loads at.After-child_spot-right_child) (left_is at.After-put_spot_if-in-Some)

pub visits-preserved : goal.visits-preserved
visits-preserved c =
    let at = goal.at.visits-preserved c in
    record {
      most_is = c.visits.invariant.most_is;
      gathers = IsGatheringPass-visits c.visits.invariant.gathers (c.spot.ensures ∙ c.in-Some.is) (notes at.After-from-count)
          (loads at.After-child_spot-right_child) (left_is at.After-put_spot_if-in-Some)
          (c.put_spot_if-in-Some-2.ensures.others ∙ ap (with_lists c.put_spot_if-in-Some.new.self) c.put_spot_if-in-Some-2.ensures.put);
    }

pub visits-smaller : goal.visits-smaller
visits-smaller c =
    let fewer = fewer_left c.visits.invariant.gathers (c.spot.ensures ∙ c.in-Some.is) in
    omega (arith, fewer)
