use Rattle.grown_runs.proofs.Children.MovedChildren.{IsIndex-alone}
use Rattle.grown_runs.proofs.child_index.ChildIndex.new.Goals as goal

pub returns-clause-chains : goal.returns-clause-chains
returns-clause-chains c = rw (c.push_reserved.ensures.items, c.in_ok-links.ensures.items) IsIndex-alone
