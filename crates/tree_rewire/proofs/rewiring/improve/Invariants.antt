use Rattle.tree_rewire.proofs.Words.{◌⊎◌, ◌+◌, cost_of, WritesWord, TreeOf, tree_word, HasPostedGoals, SeesAsBefore, HasWholeShare, sees, NamesLowered}
use Rattle.tree_rewire.proofs.Words.{PassSees, SeesPair, cost_seen, OnlyAt}
use Rattle.tree_rewire.proofs.rewiring.improve.Given as goal

abbrev pub invariant-lowers : goal.invariant-lowers
invariant-lowers l = record {
  steps : PassSees NamesLowered l.shared l.fn.pass l.pass;
  others : OnlyAt l.node l.fn.pass.view l.pass.view;
  pair : SeesPair l.pass.view l.node;
  goals : HasWholeShare l.fn.pass.view → HasPostedGoals l.fn.pass.view → HasPostedGoals l.pass.view;
  whole : HasWholeShare l.fn.pass.view → SeesAsBefore l.fn.pass.view l.pass.view
      ⊎ WritesWord (TreeOf l.node) (tree_word l.parent (cost_seen l.fn.pass.view l.parent + cost_of l.fn.from l.fn.to)) (sees l.fn.pass.view)
      (sees l.pass.view);
}

-- what the node is seen to cost
abbrev pub decreases-lowers : goal.decreases-lowers
decreases-lowers l = cost_seen l.pass.view l.node
