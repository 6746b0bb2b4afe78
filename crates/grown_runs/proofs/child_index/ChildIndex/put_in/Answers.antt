use Rattle.grown_runs.proofs.Words.{◌-◌, ◌<◌, suc, length, ap, sym, subst, inl, inr, arith, cases_eq, MovesNode, firsts_of, nexts_of, previouses_of}
use Rattle.grown_runs.proofs.Children.MovedChildren.{IsIndex-put_in, MovesNode-none, front_within, read_link}
use Rattle.grown_runs.proofs.child_index.ChildIndex.put_in.Goals as goal

pub returns-then-to-eq0-clause-moves : goal.returns-then-to-eq0-clause-moves
returns-then-to-eq0-clause-moves c =
    subst (λ l. MovesNode c.args.node 0 l c.args.self.now c.args.self.now) (sym c.if-to-eq0.true) (MovesNode-none c.args.node 0 c.args.self.now)

pub set_previous-requires : goal.set_previous-requires
set_previous-requires c =
    let index = c.requires.here.chains in
    let low : c.args.to - 1 < length (firsts_of c.args.self.now) = omega (arith, c.requires.parent, c.if-to-eq0.false) in
    let front = read_link (λ l. l.first) c.args.self.now.links.items (c.args.to - 1) _ low c.index.ensures in
    omega (arith, front, index.firsts, front_within _ _ _ _ _ (suc (c.args.to - 1)) index, ap (λ l. length l) c.set_next.ensures.firsts)

pub returns-clause-moves : goal.returns-clause-moves
returns-clause-moves c nodes chain now index free here others =
    let lists = c.args.self.now in
    let parent : c.args.to - 1 < length (firsts_of lists) = omega (arith, c.requires.parent, c.if-to-eq0.false) in
    let low : c.args.node < nodes = omega (arith, c.requires.here.chains.firsts, index.firsts, c.requires.here.low) in
    let front = read_link (λ l. l.first) lists.links.items (c.args.to - 1) _ parent c.index.ensures in
    let some : 0 < c.args.node = elim (cases_eq c.args.node 0) [ inl e ↦ absurd (c.if-to-eq0.false (c.requires.root e)) | inr apart ↦ omega (arith, apart) ] in
    rw (c.set_first.ensures.firsts, c.set_previous-2.ensures.firsts, c.set_previous.ensures.firsts, c.set_next.ensures.firsts)
    (rw (c.set_first.ensures.nexts, c.set_previous-2.ensures.nexts, c.set_previous.ensures.nexts, c.set_next.ensures.nexts)
    (rw (c.set_first.ensures.previouses, c.set_previous-2.ensures.previouses, c.set_previous.ensures.previouses, c.set_next.ensures.previouses, front)
    (IsIndex-put_in nodes chain now (firsts_of lists) (nexts_of lists) (previouses_of lists) c.args.node (c.args.to - 1) index low
    (omega (arith, index.firsts, parent)) some free (omega (arith, here, c.if-to-eq0.false)) others)))
