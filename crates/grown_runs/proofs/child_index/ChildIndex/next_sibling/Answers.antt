use Rattle.grown_runs.proofs.Words.{◌∷◌, ◌∙◌, sym, ap, arith, length-map, siblings_from}
use Rattle.grown_runs.proofs.Children.MovedChildren.{read_link}
use Rattle.grown_runs.proofs.Children.SiblingWalks.{siblings_from-next}
use Rattle.grown_runs.proofs.child_index.ChildIndex.next_sibling.Goals as goal

pub index-requires : goal.index-requires
index-requires c = omega (arith, c.requires.2.low, c.requires.2.chains.nexts, length-map c.args.self.now.links.items (λ l. l.next))

pub returns : goal.returns
returns c =
    let lists = c.args.self.now in
    let has = c.requires.2 in
    let next = read_link (λ l. l.next) lists.links.items c.args.node _ (omega (arith, has.low, has.chains.nexts)) c.index.ensures in
    siblings_from-next lists c.args.node c.requires.0 has c.requires.1
    ∙ ap (λ n. c.args.node ∷ siblings_from lists n) (sym next)
