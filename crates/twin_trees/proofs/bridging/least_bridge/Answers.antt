use Rattle.twin_trees.proofs.Words.{◌<◌, arith, sym, subst, inl, inr, IfSome, cases_eq, setup_of, state_of_grown, words_of_grown, node-held, IsMatched}
use Rattle.twin_trees.proofs.Words.{IsMember, Matches, IsTripleNotAbove, cost_over}
use Rattle.twin_trees.proofs.bridging.least_bridge.Goals as goal

pub loop-node-preserved : goal.loop-node-preserved
loop-node-preserved g c = record {
  best = c.best_over-best.ensures.best;
  looked = λ n d below.
      elim (cases_eq n c.loop-node.node) [
        | inl same ↦ (
            subst (λ m. Matches (setup_of c.args.first.now.task.scene) (state_of_grown c.args.first.now) (state_of_grown c.args.second.now)
            c.best_over-best.result m d) (sym same) (c.best_over-best.ensures.from d))
        | inr other ↦ (λ candidate.
            c.best_over-best.ensures.no_worse _ n d (c.loop-node.invariant.looked n d (omega (arith, below, other)) candidate))
      ];
}

pub returns-in-Some : goal.returns-in-Some
returns-in-Some g c =
    let first = c.args.first.now in
    let one = state_of_grown first in
    let other = state_of_grown c.args.second.now in
    let setup = setup_of first.task.scene in
    let bridge = c.in-Some.bridge in
    let member = subst (λ best. IfSome best (IsMember setup one other)) c.in-Some.is c.loop-node.invariant.best in
    record {
      member = member.candidate;
      not_above = λ n d candidate.
          let below : n < c.loop-node.node =
          omega (
            arith,
            node-held first.task first.limit (words_of_grown first) first.hold_run n candidate.one_present,
            c.limit-node-end.ensures,
            c.loop-node-test.false,
          ) in
          let matched = subst (λ best. IsMatched best (cost_over one other n d) n d) c.in-Some.is (c.loop-node.invariant.looked n d below candidate) in
          subst (λ cost. IsTripleNotAbove cost bridge.first bridge.second (cost_over one other n d) n d) member.cost matched;
    }

pub returns : goal.returns
returns g c = λ n d candidate.
    let first = c.args.first.now in
    let one = state_of_grown first in
    let other = state_of_grown c.args.second.now in
    let below : n < c.loop-node.node =
    omega (
      arith,
      node-held first.task first.limit (words_of_grown first) first.hold_run n candidate.one_present,
      c.limit-node-end.ensures,
      c.loop-node-test.false,
    ) in
    subst (λ best. IsMatched best (cost_over one other n d) n d) c.in-None.is (c.loop-node.invariant.looked n d below candidate)
