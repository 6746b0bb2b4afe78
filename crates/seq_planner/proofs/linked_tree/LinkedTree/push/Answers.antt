-- The index has the children of the nodes so far, with room for one more, which then joins those of its parent.
use Rattle.seq_planner.proofs.Words.{◌≡◌, ◌<◌, length, ap, subst, arith, MOST_NODES, IsPresent, points_of, present_below, MayJoin}
use Rattle.seq_planner.proofs.ChangedLinks.{AreLinked-push, AreLinked-push_absent, HasInChain-push}
use Rattle.seq_planner.proofs.linked_tree.LinkedTree.push.Goals as goal

pub relink-requires-clause-here : goal.relink-requires-clause-here
relink-requires-clause-here c =
    let tree = c.self.inside.nodes.items in
    let number : c.len-number.result ≡ length tree = omega (arith, c.self.inside.nodes.ok.0) in
    HasInChain-push tree c.self.inside.children c.push.new.self c.len-number.result number c.in_ok-push.ensures.more c.self.invariant

pub relink-requires-clause-parent : goal.relink-requires-clause-parent
relink-requires-clause-parent c =
    let tree = c.self.inside.nodes.items in
    let parent = c.in-Some.node.parent in
    let there : IsPresent (points_of c.args.self.now) parent = subst (MayJoin c.args.self.now) c.in-Some.is c.requires.parent in
    let below = present_below c.args.self.now parent there in
    omega (arith, below, ap length c.self.view_is, (c.in_ok-push.ensures.more _ _ c.self.invariant.chains).firsts)

pub invariant_of-self-in-Some : goal.invariant_of-self-in-Some
invariant_of-self-in-Some c =
    let tree = c.self.inside.nodes.items in
    let number : c.len-number.result ≡ length tree = omega (arith, c.self.inside.nodes.ok.0) in
    let some : 0 < length tree = omega (arith, ap length c.self.view_is, c.requires.some) in
    let room : length tree < MOST_NODES = omega (arith, ap length c.self.view_is, c.requires.few) in
    rw (c.push_reserved.ensures.items, c.reserve.ensures.items, c.in-Some.is)
    (AreLinked-push tree c.in-Some.node c.self.inside.children c.push.new.self c.relink.new.self c.len-number.result number some room
    c.in_ok-push.ensures.more c.relink.ensures.moves c.self.invariant)

pub invariant_of-self-in_default : goal.invariant_of-self-in_default
invariant_of-self-in_default c =
    let tree = c.self.inside.nodes.items in
    let room : length tree < MOST_NODES = omega (arith, ap length c.self.view_is, c.requires.few) in
    rw (c.push_reserved.ensures.items, c.reserve.ensures.items, c.in_default.is)
    (AreLinked-push_absent tree c.self.inside.children c.push.new.self room c.in_ok-push.ensures.more c.self.invariant)
