use Rattle.twin_trees.proofs.Words.{◌+◌, ap, sym, subst, ◌∙◌, is_some, state_of_grown}
use Rattle.twin_trees.proofs.NumberedNodes.{AreNodesBelow, AreNodesBelow-push, AreNodesBelow-skip}
use Rattle.twin_trees.proofs.SearchedPairs.{IsBounded-grown}
use Rattle.twin_trees.proofs.nodes.nodes_of.Goals.{in-Some+in_ok-push, in_default}
use Rattle.twin_trees.proofs.nodes.nodes_of.Goals as goal

pub loop-number-preserved : goal.loop-number-preserved
loop-number-preserved c =
    let grown = c.args.grown.now in
    let state = state_of_grown grown in
    let number = c.loop-number.number in
    let below = c.loop-number.invariant in
    elim c.match-point.branch [
      | in-Some+in_ok-push w ↦ (
          let p = w.in-Some.point in
          let stands = sym c.point.ensures ∙ w.in-Some.is in
          subst (λ nodes. AreNodesBelow state nodes (number + 1)) (sym (ap (λ nodes. nodes.items) w.nodes-is ∙ w.in_ok-push.ensures.items))
          (AreNodesBelow-push state c.loop-number.nodes.items number below p stands
          (IsBounded-grown grown number p stands)))
      | in_default w ↦ (
          subst (λ nodes. AreNodesBelow state nodes.items (number + 1)) (sym w.nodes-is)
          (AreNodesBelow-skip state c.loop-number.nodes.items number below (λ here.
          let gone = ap is_some w.in_default.ensures in cc)))
    ]
