use Rattle.tree_rewire.proofs.Words.{◌+◌, ◌*◌, length, HasPostedGoals, HasWholeShare, IsOn, PassLowers, IsSpreading, KeepsParents}
use Rattle.tree_rewire.proofs.SpreadCosts.{weigh}
use Rattle.tree_rewire.proofs.spreading.spread.Given as goal

abbrev pub invariant-falls : goal.invariant-falls
invariant-falls l = record {
  steps : PassLowers l.shared l.fn.pass l.pass;
  spreads : IsSpreading l.node l.fn.pass.view l.pass.view (IsOn l.pass.lists.waiting);
  goals : HasWholeShare l.fn.pass.view → HasPostedGoals l.fn.pass.view → HasPostedGoals l.pass.view;
  whole : HasWholeShare l.fn.pass.view → KeepsParents l.fn.pass.view l.pass.view;
}

-- what all nodes were seen to cost together, and then how many wait
abbrev pub decreases-falls : goal.decreases-falls
decreases-falls l =
    weigh (length l.fn.pass.view.run.marks + 1) l.pass.view * (length l.fn.pass.view.run.marks + 1 + 1) + length l.pass.lists.waiting
