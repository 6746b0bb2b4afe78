use Rattle.twin_trees.proofs.Words.{◌≡◌, ◌+◌, arith, sym, subst, IsPresent-stands, cost_of, setup_of, Clear, state_of_grown, kept-low}
use Rattle.twin_trees.proofs.Words.{IsMatched, cost_over}
use Rattle.twin_trees.proofs.SearchedPairs.{Clear-candidate, IsBounded-grown, IsCandidate-clear, cost_over-stands}
use Rattle.twin_trees.proofs.bridging.better.Goals.{then-not-so_far_is_beaten-via-then-not-so_far_is_beaten}
use Rattle.twin_trees.proofs.bridging.better.Goals.{then-not-so_far_is_beaten-via-else-not-so_far_is_beaten+then-not-clear}
use Rattle.twin_trees.proofs.bridging.better.Goals as goal

pub so_far_is_beaten-requires-clause-end : goal.so_far_is_beaten-requires-clause-end
so_far_is_beaten-requires-clause-end g c = IsBounded-grown c.args.runs.now.first.now _ _ c.requires.end

pub so_far_is_beaten-requires-clause-other : goal.so_far_is_beaten-requires-clause-other
so_far_is_beaten-requires-clause-other g c = IsBounded-grown c.args.runs.now.second.now _ _ c.requires.other

pub cost-requires-3-clause-from : goal.cost-requires-3-clause-from
cost-requires-3-clause-from g c = IsBounded-grown c.args.runs.now.first.now _ _ c.requires.end

pub cost-requires-3-clause-to : goal.cost-requires-3-clause-to
cost-requires-3-clause-to g c = IsBounded-grown c.args.runs.now.second.now _ _ c.requires.other

pub returns-then-not-so_far_is_beaten-clause-pair : goal.returns-then-not-so_far_is_beaten-clause-pair
returns-then-not-so_far_is_beaten-clause-pair g c = λ candidate.
    let first = c.args.runs.now.first.now in
    let second = c.args.runs.now.second.now in
    let one = state_of_grown first in
    let other = state_of_grown second in
    let a = c.args.end.number in
    let b = c.args.other.number in
    let p = c.args.end.point in
    let q = c.args.other.point in
    let setup = setup_of first.task.scene in
    elim c.then-not-so_far_is_beaten.branch [
      | then-not-so_far_is_beaten-via-then-not-so_far_is_beaten w ↦ (
          let total : c.cost.result + c.cost-2.result + cost_of p q ≡ cost_over one other a b =
          omega (
            arith,
            cost_over-stands setup one other a b p q c.requires.end c.requires.other,
            c.cost.ensures,
            c.cost-2.ensures,
            c.requires.first a (IsPresent-stands one.points a p c.requires.end),
            c.requires.second b (IsPresent-stands other.points b q c.requires.other),
          ) in
          subst (λ t. IsMatched c.args.so_far t a b) total
          (c.so_far_is_beaten.ensures.matched w.if-not-so_far_is_beaten.true))
      | then-not-so_far_is_beaten-via-else-not-so_far_is_beaten+then-not-clear w ↦ (
          let clear = Clear-candidate setup one other a b p q c.requires.end c.requires.other candidate in
          let yes = w.clear.ensures.1 (subst (λ space. Clear space p q) (sym c.requires.hall) clear) in
          let no = w.if-not-clear.true in
          cc)
    ]

pub returns-clause-best : goal.returns-clause-best
returns-clause-best g c =
    let first = c.args.runs.now.first.now in
    let second = c.args.runs.now.second.now in
    let one = state_of_grown first in
    let other = state_of_grown second in
    let a = c.args.end.number in
    let b = c.args.other.number in
    let p = c.args.end.point in
    let q = c.args.other.point in
    let setup = setup_of first.task.scene in
    let here = IsPresent-stands one.points a p c.requires.end in
    let there = IsPresent-stands other.points b q c.requires.other in
    let clear = c.clear.ensures.0 c.if-not-clear.false in
    record {
      candidate =
          IsCandidate-clear setup one other a b p q c.requires.end c.requires.other c.requires.within
          (subst (λ space. Clear space p q) c.requires.hall clear);
      cost =
          omega (
            arith,
            cost_over-stands setup one other a b p q c.requires.end c.requires.other,
            c.cost.ensures,
            c.cost-2.ensures,
            c.cost-3.ensures.value,
            c.requires.first a here,
            c.requires.second b there,
          );
      low =
          omega (
            arith,
            kept-low first.task first.limit one first.hold_run.closed a here,
            kept-low second.task second.limit other second.hold_run.closed b there,
            c.cost.ensures,
            c.cost-2.ensures,
            c.cost-3.ensures.bound,
          );
    }
