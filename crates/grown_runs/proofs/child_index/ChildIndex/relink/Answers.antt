use Rattle.grown_runs.proofs.Words.{subst, arith, MovesNode}
use Rattle.grown_runs.proofs.Children.MovedChildren.{HasInChain-out, MovesNode-none, MovesNode-trans, length-out}
use Rattle.grown_runs.proofs.child_index.ChildIndex.relink.Goals as goal

pub returns-then-from-to-clause-moves : goal.returns-then-from-to-clause-moves
returns-then-from-to-clause-moves c =
    subst (λ l. MovesNode c.args.node c.args.from l c.args.self.now c.args.self.now) c.if-from-to.true (MovesNode-none c.args.node c.args.from c.args.self.now)

pub put_in-requires-clause-here : goal.put_in-requires-clause-here
put_in-requires-clause-here c = HasInChain-out c.args.node c.args.from c.args.self.now c.take_out.new.self c.requires.here c.take_out.ensures.moves

pub put_in-requires-clause-parent : goal.put_in-requires-clause-parent
put_in-requires-clause-parent c =
    omega (arith, c.requires.parent, length-out c.args.node c.args.from c.args.self.now c.take_out.new.self c.requires.here c.take_out.ensures.moves)

pub returns-clause-moves : goal.returns-clause-moves
returns-clause-moves c =
    MovesNode-trans c.args.node c.args.from c.args.to c.args.self.now c.take_out.new.self c.put_in.new.self c.take_out.ensures.moves c.put_in.ensures.moves

pub returns-clause-room : goal.returns-clause-room
returns-clause-room c numbers fits = c.put_in.ensures.room numbers (c.take_out.ensures.room numbers fits)
