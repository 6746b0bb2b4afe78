-- Each child comes once, as the siblings from the first child on are all children.
use Rattle.seq_planner.proofs.Words.{◌≡◌, ℕ, ◌<◌, suc, length, refl, ap, ◌∙◌, arith, siblings_from, times, AreMembers-chain, siblings_from-here, times-cons}
use Rattle.seq_planner.proofs.Words.{chain_in, hangs_below}
use Rattle.seq_planner.proofs.ChangedLinks.{hangs_below-times}
use Rattle.seq_planner.proofs.LoweredBranches.{one_if}
use Rattle.seq_planner.proofs.PendingNodes.{times-last}
use Rattle.seq_planner.proofs.linked_tree.LinkedTree.push_children.Goals as goal

pub loop-child-init : goal.loop-child-init
loop-child-init c =
    let tree = c.self.inside.nodes.items in
    let members = siblings_from c.self.inside.children c.first_child-child.result in
    let children = c.first_child-child.ensures (length tree) (chain_in tree) c.self.invariant.chains in
    record {
      added = λ n. refl;
      ahead = λ n there. AreMembers-chain (chain_in tree) (suc c.args.number) members n children there;
    }

pub next_sibling-child-requires : goal.next_sibling-child-requires
next_sibling-child-requires c =
    let tree = c.self.inside.nodes.items in
    let chains = c.self.invariant.chains in
    let child = c.loop-child.child in
    let some : 0 < child = omega (arith, c.loop-child-test.true) in
    let own = c.loop-child.invariant.ahead child (siblings_from-here c.self.inside.children child some (omega (arith, chains.nexts, chains.some))) in (
      suc c.args.number,
      omega arith,
      record { nodes = length tree; chain = chain_in tree; chains = chains; here = own; low = chains.within child (omega (arith, own)) },
    )

pub loop-child-preserved : goal.loop-child-preserved
loop-child-preserved c =
    let child = c.loop-child.child in
    let rest = siblings_from c.self.inside.children c.next_sibling-child.result in
    let siblings = λ (n : ℕ). ap (λ members. times members n) c.next_sibling-child.ensures ∙ times-cons rest child n in
    record {
      added = λ n.
          omega (
            arith,
            c.loop-child.invariant.added n,
            ap (λ l. times l n) c.in_ok-push.ensures.items,
            times-last c.loop-child.list.items child n,
            siblings n,
          );
      ahead = λ n there. c.loop-child.invariant.ahead n (omega (arith, siblings n, there));
    }

pub returns : goal.returns
returns c n =
    let tree = c.self.inside.nodes.items in
    let children = c.first_child-child.ensures (length tree) (chain_in tree) c.self.invariant.chains in
    let members = siblings_from c.self.inside.children c.first_child-child.result in
    let end : c.loop-child.child ≡ 0 = omega (arith, c.loop-child-test.false) in
    omega (
      arith,
      c.loop-child.invariant.added n,
      ap (λ m. times (siblings_from c.self.inside.children m) n) end,
      hangs_below-times tree c.args.number members n children,
      ap (λ t. one_if (hangs_below t c.args.number n)) c.self.view_is,
    )
