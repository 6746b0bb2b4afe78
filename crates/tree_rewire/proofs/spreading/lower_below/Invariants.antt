use Rattle.tree_rewire.proofs.Words.{◌≡◌, ◌⊎◌, ◌+◌, ℕ, length, HasPostedGoals, HasWholeShare, IsOn, View, PassLowers, IsSpreading, KeepsParents, NoneRises}
use Rattle.tree_rewire.proofs.Words.{QueuesFallen}
use Rattle.tree_rewire.proofs.SpreadCosts.{weigh}
use Rattle.tree_rewire.proofs.spreading.lower_below.Given as goal

abbrev pub invariant-tries : goal.invariant-tries
invariant-tries l = record {
  steps : PassLowers l.shared l.fn.pass l.pass;
  spreads :
      (node : ℕ) (first : View) → IsSpreading node first l.fn.pass.view (λ p. IsOn l.fn.pass.lists.waiting p ⊎ (p ≡ l.node))
      → IsSpreading node first l.pass.view (λ p. IsOn l.pass.lists.waiting p ⊎ (p ≡ l.node));
  falls : NoneRises l.fn.pass.view l.pass.view;
  queued : QueuesFallen l.fn.pass l.pass;
  goals : HasWholeShare l.fn.pass.view → HasPostedGoals l.fn.pass.view → HasPostedGoals l.pass.view;
  whole : HasWholeShare l.fn.pass.view → KeepsParents l.fn.pass.view l.pass.view;
}

-- what all nodes were seen to cost together
abbrev pub decreases-tries : goal.decreases-tries
decreases-tries l = weigh (length l.fn.pass.view.run.marks + 1) l.pass.view
