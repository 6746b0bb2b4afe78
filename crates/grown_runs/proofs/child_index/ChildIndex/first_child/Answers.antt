use Rattle.grown_runs.proofs.Words.{suc, sym, subst, AreMembers, siblings_from}
use Rattle.grown_runs.proofs.Children.MovedChildren.{read_link}
use Rattle.grown_runs.proofs.Children.SiblingWalks.{AreMembers-first}
use Rattle.grown_runs.proofs.child_index.ChildIndex.first_child.Goals as goal

pub returns : goal.returns
returns c nodes chain index =
    let lists = c.args.self.now in
    let first = read_link (λ l. l.first) lists.links.items c.args.parent _ c.requires c.index.ensures in
    subst (λ n. AreMembers chain (suc c.args.parent) (siblings_from lists n)) (sym first) (AreMembers-first nodes chain lists c.args.parent index)
