use Rattle.twin_trees.proofs.Words.{◌+◌, ◌<◌, arith, ap, sym, subst, inl, inr, cases_lt, IsPresent-stands, point_of-stands, cost_of, setup_of, point_of, sum_in}
use Rattle.twin_trees.proofs.Words.{Task, state_of_grown, Matches}
use Rattle.twin_trees.proofs.SearchedPairs.{IsBounded-grown, Matches-far}
use Rattle.twin_trees.proofs.TripleOrder.{false_of_not}
use Rattle.twin_trees.proofs.bridging.is_too_far.Goals as goal

pub costs_less_through-requires-clause-from : goal.costs_less_through-requires-clause-from
costs_less_through-requires-clause-from c = IsBounded-grown c.args.runs.now.first.now _ _ c.requires.stands

pub returns-in-Some : goal.returns-in-Some
returns-in-Some c = λ far d.
    let first = c.args.runs.now.first.now in
    let second = c.args.runs.now.second.now in
    let one = state_of_grown first in
    let other = state_of_grown second in
    let a = c.args.end.number in
    let p = c.args.end.point in
    let bridge = c.in-Some.bridge in
    let own = setup_of second.task.scene in
    let no = false_of_not c.costs_less_through.result far in
    let root = ap (λ (t : Task). cost_of p t.scene.start) c.task.ensures in
    let here = point_of-stands one.points a p c.requires.stands in
    let present = IsPresent-stands one.points a p c.requires.stands in
    let past : bridge.cost < sum_in one a + cost_of (point_of one.points a) own.start =
    elim (cases_lt bridge.cost (sum_in one a + cost_of (point_of one.points a) own.start)) [
      | inl above ↦ above
      | inr low ↦ (
          let less : c.cost.result + cost_of p c.task.result.now.scene.start < bridge.cost + 1 =
          omega (
            arith,
            low,
            c.cost.ensures,
            c.requires.first a present,
            ap (λ r. cost_of r own.start) here,
            root,
          ) in
          let yes = c.costs_less_through.ensures.1 less in
          absurd cc)
    ] in
    subst (λ so_far. Matches (setup_of first.task.scene) one other so_far a d) (sym c.in-Some.is)
    (Matches-far (setup_of first.task.scene) own one other second.hold_run.closed.order bridge a past d)
