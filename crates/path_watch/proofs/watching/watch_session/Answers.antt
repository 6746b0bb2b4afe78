use Rattle.path_watch.proofs.Words.{◌++◌, ◌∷◌, [], FoldsTo-push, FoldsTo, SinkState, SessionState, Hands}
use Rattle.path_watch.proofs.WatchedSessions.{Reached-steps, Watches-cut, Watches-over, Watches-refused, fresh_run, settled_at_end}
use Rattle.path_watch.proofs.watching.watch_session.Goals as goal

pub returns-in_default : goal.returns-in_default
returns-in_default g c = λ workers slice scene session.
    let k = g.K.Sink.state c.args.sink.now in
    let items = c.loop.invariant.0 in
    let some = fresh_run workers slice scene c.args.session session in
    let reached = Reached-steps c.args.session k items (c.loop.session, g.K.Sink.state c.loop.sink) some c.loop.invariant.1 in
    Watches-refused workers slice scene c.args.session session k _ _ items c.loop.session c.refuse.result reached
    (rw c.in_default.ensures.unwritten at c.refuse.ensures)

pub returns-in-Cut : goal.returns-in-Cut
returns-in-Cut g c = λ workers slice scene session.
    let k = g.K.Sink.state c.args.sink.now in
    let items = c.loop.invariant.0 in
    let some = fresh_run workers slice scene c.args.session session in
    let reached = Reached-steps c.args.session k items (c.loop.session, g.K.Sink.state c.loop.sink) some c.loop.invariant.1 in
    let step = rw c.in-Cut.is at c.in-Ok.ensures.step in
    Watches-cut workers slice scene c.args.session session k _ _ items c.loop.session c.in-Ok.handed.session c.in-Cut.field-0 c.cut_at.result reached
    step.comes step.stands c.cut_at.ensures step.taken

pub hand_end-requires-after_bounds : goal.hand_end-requires-after_bounds
hand_end-requires-after_bounds g c = λ κs outlives.
    let k = g.K.Sink.state c.args.sink.now in
    let items = c.loop.invariant.0 in
    let some = fresh_run c.requires.0 c.requires.1 c.requires.2 c.args.session c.requires.3 in
    let reached = Reached-steps c.args.session k items (c.loop.session, g.K.Sink.state c.loop.sink) some c.loop.invariant.1 in
    let step = rw c.in-Over.is at c.in-Ok.ensures.step in
    settled_at_end c.requires.0 c.requires.1 c.requires.2 c.args.session c.requires.3 k _ items c.loop.session c.in-Ok.handed.session reached step.comes

pub returns-in-Over : goal.returns-in-Over
returns-in-Over g c = λ workers slice scene session.
    let k = g.K.Sink.state c.args.sink.now in
    let items = c.loop.invariant.0 in
    let some = fresh_run workers slice scene c.args.session session in
    let reached = Reached-steps c.args.session k items (c.loop.session, g.K.Sink.state c.loop.sink) some c.loop.invariant.1 in
    let step = rw c.in-Over.is at c.in-Ok.ensures.step in
    Watches-over workers slice scene c.args.session session k _ _ items c.loop.session c.in-Ok.handed.session c.hand_end.result reached step.comes
    (rw step.taken at c.hand_end.ensures)

pub loop-preserved-in-Given : goal.loop-preserved-in-Given
loop-preserved-in-Given g c =
    let step = rw c.in-Given.is at c.in-Ok.ensures.step in
    let before : SessionState × SinkState = (c.args.session, g.K.Sink.state c.args.sink.now) in
    let after : SessionState × SinkState = (c.in-Ok.handed.session, g.K.Sink.state c.hand_next.new.sink) in
    let all : FoldsTo Hands before (c.loop.invariant.0 ++ c.in-Given.field-0 ∷ []) after =
    FoldsTo-push Hands before c.loop.invariant.0 _ c.in-Given.field-0 after c.loop.invariant.1 step in
    (c.loop.invariant.0 ++ c.in-Given.field-0 ∷ [], all)
