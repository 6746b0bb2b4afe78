use Rattle.grown_runs.proofs.Words.{◌-◌, refl, sym, ◌∙◌, subst, arith, MovesNode, firsts_of, nexts_of, previouses_of}
use Rattle.grown_runs.proofs.Children.MovedChildren.{IsIndex-taken_out, MovesNode-none, read_link}
use Rattle.grown_runs.proofs.child_index.ChildIndex.take_out.Goals as goal

pub returns-then-from-eq0-clause-moves : goal.returns-then-from-eq0-clause-moves
returns-then-from-eq0-clause-moves c =
    subst (λ l. MovesNode c.args.node c.args.from l c.args.self.now c.args.self.now) c.if-from-eq0.true
    (MovesNode-none c.args.node c.args.from c.args.self.now)

pub returns-then-before-eq0-clause-moves : goal.returns-then-before-eq0-clause-moves
returns-then-before-eq0-clause-moves c nodes chain now index here out others =
    let lists = c.args.self.now in
    let node = c.args.node in
    let low = index.within node (omega (arith, here, c.if-from-eq0.false)) in
    let before = read_link (λ l. l.previous) lists.links.items node _ (omega (arith, index.previouses, low)) c.index.ensures in
    let after = read_link (λ l. l.next) lists.links.items node _ (omega (arith, index.nexts, low)) c.index-2.ensures in
    rw (c.set_first.ensures.firsts, c.set_previous.ensures.firsts, c.set_next.ensures.firsts)
    (rw (c.set_first.ensures.nexts, c.set_previous.ensures.nexts, c.set_next.ensures.nexts)
    (rw (c.set_first.ensures.previouses, c.set_previous.ensures.previouses, c.set_next.ensures.previouses, before, after)
    (IsIndex-taken_out nodes chain now (firsts_of lists) _ (nexts_of lists) (previouses_of lists) node (c.args.from - 1) index
    (omega (arith, here, c.if-from-eq0.false)) out others
    (λ z. refl) (λ later. absurd (later (sym before ∙ c.if-before-eq0.true))))))

pub returns-then-before-eq0-clause-room : goal.returns-then-before-eq0-clause-room
returns-then-before-eq0-clause-room c numbers fits =
    c.set_first.ensures.room numbers (c.set_previous.ensures.room numbers (c.set_next.ensures.room numbers fits))

pub returns-else-before-eq0-clause-moves : goal.returns-else-before-eq0-clause-moves
returns-else-before-eq0-clause-moves c nodes chain now index here out others =
    let lists = c.args.self.now in
    let node = c.args.node in
    let low = index.within node (omega (arith, here, c.if-from-eq0.false)) in
    let before = read_link (λ l. l.previous) lists.links.items node _ (omega (arith, index.previouses, low)) c.index.ensures in
    let after = read_link (λ l. l.next) lists.links.items node _ (omega (arith, index.nexts, low)) c.index-2.ensures in
    rw (c.set_previous.ensures.firsts, c.set_next.ensures.firsts)
    (rw (c.set_previous.ensures.nexts, c.set_next.ensures.nexts)
    (rw (c.set_previous.ensures.previouses, c.set_next.ensures.previouses, before, after)
    (IsIndex-taken_out nodes chain now (firsts_of lists) _ (nexts_of lists) (previouses_of lists) node (c.args.from - 1) index
    (omega (arith, here, c.if-from-eq0.false)) out others
    (λ z. absurd (c.if-before-eq0.false (before ∙ z))) (λ later. refl))))
