use Rattle.kd_shared.proofs.Words.{false, arith, refl, sym, ap, ◌∙◌, subst, squared_distance, PointOf, point_of_spot, with_lists, Spot, MeasuredNode}
use Rattle.kd_shared.proofs.Looking.{LoadsPoint-point}
use Rattle.kd_shared.proofs.NearestPasses.{half_seen, half_seen_stack, here_seen, IsSeekingPass, IsSeekingPass-begins, IsSeekingPass-ends}
use Rattle.kd_shared.proofs.NearestPasses.{IsSeekingPass-walks, stack_room, visits_low, VisitsHere, walked_looks}
use Rattle.kd_shared.proofs.NearestSearch.{IsNearer, IsNearer-of}
use Rattle.kd_shared.proofs.PassLooks.{PassLooks-load}
use Rattle.kd_shared.proofs.nearest_search.nearest.Goals as goal
use Rattle.kd_shared.proofs.nearest_search.nearest.Goals.{After-stack_far_side}

pub visits-init : goal.visits-init
visits-init c =
    let here : Spot = record { node = 0; by_rows = false; word = c.point_word-start.result } in
    let first = PassLooks-load c.args.shared.now c.args.pass.now c.point_word-start.new.pass (PointOf 0) _ _ c.requires.belongs tt
    c.point_word-start.ensures.view c.point_word-start.ensures.goes_on c.point_word-start.ensures.seen
    c.point_word-start.ensures.looked c.point_word-start.ensures.whole in
    let load = LoadsPoint-point c.args.pass.now.view c.point_word-start.new.pass.view 0 c.point_word-start.ensures.goes_on (point_of_spot here)
    c.point_word-start.ensures.found c.point_word-start.ensures.seen.others in
    let cleared = c.clear_search.ensures.others ∙ ap (with_lists c.point_word-start.new.pass) c.clear_search.ensures.search in
    record {
      seeks = subst (λ (m : MeasuredNode). IsSeekingPass c.args.shared.now c.args.pass.now c.clear_search.new.self c.args.p m.distance m.node here 0)
          (sym (c.new-best.ensures ∙ ap (λ at. record { node = 0; at = at; distance = squared_distance at c.args.p }) c.point.ensures))
          (IsSeekingPass-begins c.args.shared.now c.args.pass.now c.point_word-start.new.pass c.clear_search.new.self c.args.p
          (squared_distance (point_of_spot here) c.args.p) here first load refl cleared refl refl);
    }

pub stack_far_side-requires-clause-seen : goal.stack_far_side-requires-clause-seen
stack_far_side-requires-clause-seen c = here_seen c.visits.invariant.seeks

pub stack_far_side-requires-clause-room : goal.stack_far_side-requires-clause-room
stack_far_side-requires-clause-room c = stack_room c.visits.invariant.seeks

visits : (c : After-stack_far_side) → VisitsHere c.visits.pass c.stack_far_side.new.pass c.args.p c.visits.best.distance c.visits.best.node
    c.nearer-best.result.distance c.nearer-best.result.node c.visits.here
visits c = record {
  nearest = subst
      (λ (m : MeasuredNode). IsNearer c.visits.best.distance c.visits.best.node m.distance m.node c.nearer-best.result.distance c.nearer-best.result.node)
      (c.new.ensures ∙ ap (λ at. record { node = c.visits.here.node; at = at; distance = squared_distance at c.args.p }) c.point-in-visits.ensures)
      (IsNearer-of c.visits.best c.new.result c.nearer-best.result c.nearer-best.ensures);
  looks = c.stack_far_side.ensures.looks;
  is = c.stack_far_side.ensures.others;
  stacks = c.stack_far_side.ensures.stacks;
}

pub next_spot-requires-clause-seen : goal.next_spot-requires-clause-seen
next_spot-requires-clause-seen c =
    let at = goal.at.next_spot-requires-clause-seen c in
    half_seen c.visits.invariant.seeks (visits at.After-stack_far_side)

pub next_spot-requires-clause-seen_stack : goal.next_spot-requires-clause-seen_stack
next_spot-requires-clause-seen_stack c =
    let at = goal.at.next_spot-requires-clause-seen_stack c in
    half_seen_stack c.visits.invariant.seeks (visits at.After-stack_far_side)

-- nothing is left
pub returns-in_default-clause-looks : goal.returns-in_default-clause-looks
returns-in_default-clause-looks c =
    let at = goal.at.returns-in_default-clause-looks c in
    walked_looks c.visits.invariant.seeks (visits at.After-stack_far_side) c.next_spot.new.pass c.next_spot.ensures.looks c.next_spot.ensures.others

pub returns-in_default-clause-nearest : goal.returns-in_default-clause-nearest
returns-in_default-clause-nearest c =
    let at = goal.at.returns-in_default-clause-nearest c in
    IsSeekingPass-ends c.visits.invariant.seeks (visits at.After-stack_far_side) c.next_spot.new.pass c.next_spot.ensures.looks
    c.next_spot.ensures.others c.in_default.ensures.walks

-- another is next
pub visits-preserved : goal.visits-preserved
visits-preserved c =
    let at = goal.at.visits-preserved c in
    record {
      seeks = subst
          (IsSeekingPass c.args.shared.now c.args.pass.now c.next_spot.new.pass c.args.p c.nearer-best.result.distance c.nearer-best.result.node
          c.in-Some.next)
          (omega arith)
          (IsSeekingPass-walks c.visits.invariant.seeks (visits at.After-stack_far_side) c.next_spot.new.pass c.next_spot.ensures.looks
          c.next_spot.ensures.others c.in-Some.next c.next_spot.ensures.belongs c.in-Some.ensures.walks);
    }

-- there are no more visits than there can be nodes
pub returns-clause-nearest : goal.returns-clause-nearest
returns-clause-nearest c = absurd (omega (arith, c.visits-test.false, visits_low c.visits.invariant.seeks))
