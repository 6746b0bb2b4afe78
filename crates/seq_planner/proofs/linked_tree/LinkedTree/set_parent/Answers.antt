-- The node leaves the children of one parent and joins those of another.
use Rattle.seq_planner.proofs.Words.{◌≡◌, ◌<◌, Some, None, length, get_or, sym, subst, ◌∙◌, arith, get_or_read, Twig, IsPresent, points_of, present_below}
use Rattle.seq_planner.proofs.ChangedLinks.{AreLinked-replace, chain_in-node}
use Rattle.seq_planner.proofs.linked_tree.LinkedTree.set_parent.Goals as goal

pub overflow_add-former : goal.overflow_add-former
overflow_add-former c =
    let tree = c.self.inside.nodes.items in
    let number = c.args.number in
    let present : IsPresent (points_of tree) number = subst (λ tree. IsPresent (points_of tree) number) (sym c.self.view_is) c.requires.present in
    let within : number < length tree = present_below tree number present in
    let here : get_or tree number None ≡ Some c.unwrap-former.result = sym (get_or_read tree _ _ within c.index.ensures None) ∙ c.unwrap-former.ensures in
    omega (
      arith,
      chain_in-node tree number c.unwrap-former.result c.requires.child here,
      c.self.invariant.chains.chained.high number,
      c.self.invariant.few,
    )

pub invariant_of-self : goal.invariant_of-self
invariant_of-self c =
    let tree = c.self.inside.nodes.items in
    let number = c.args.number in
    let present : IsPresent (points_of tree) number = subst (λ tree. IsPresent (points_of tree) number) (sym c.self.view_is) c.requires.present in
    let within : number < length tree = present_below tree number present in
    let here : get_or tree number None ≡ Some c.unwrap-former.result = sym (get_or_read tree _ _ within c.index.ensures None) ∙ c.unwrap-former.ensures in
    let node : Twig = record { point = c.unwrap-former.result.point; parent = c.args.parent } in
    AreLinked-replace tree c.unwrap-former.result node c.self.inside.children c.relink.new.self number c.requires.child within here c.relink.ensures.moves
    c.self.invariant
