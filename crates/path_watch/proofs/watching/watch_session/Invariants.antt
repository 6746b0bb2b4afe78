use Rattle.path_watch.proofs.Words.{List, FoldsTo, Better, Hands}
use Rattle.path_watch.proofs.watching.watch_session.Given as goal

abbrev pub invariant-loop : goal.invariant-loop
invariant-loop g l =
    (items : List Better) × FoldsTo Hands (l.fn.session, g.K.Sink.state l.initial.sink) items (l.session, g.K.Sink.state l.sink)
