use Rattle.std.proofs.Common.{sym}
use Rattle.planner.specs.declared.refusals.Refusal.TheVariants as refusals
use Rattle.path_watch.proofs.WatchedScenes.{HasWatched-asked, HasWatched-refused, HasWatched-words}
use Rattle.path_watch.proofs.top_call.watch.Goals as goal

pub returns-in_default : goal.returns-in_default
returns-in_default g c =
    HasWatched-words _ (g.S.Source.state c.args.source.now) _ _ c.refuse.result (sym c.in_default.ensures.value) c.requires c.refuse.ensures

pub returns-in-Ok : goal.returns-in-Ok
returns-in-Ok g c =
    HasWatched-asked _ _ _ _ _ c.in-Some.orders c.watch_session.result c.in-Ok.session (sym c.in-Some.ensures.value) c.in-Ok.ensures.session
    c.watch_session.ensures c.in-Ok.ensures.within

pub returns-in-Err : goal.returns-in-Err
returns-in-Err g c =
    let asks = sym c.in-Some.ensures.value in
    HasWatched-refused _ _ _ _ _ c.refuse-in-Err.result (c.in-Err.refusal, rw asks c.in-Err.ensures.refusal, c.refuse-in-Err.ensures)
    (λ none. absurd cc) c.in-Err.ensures.within
