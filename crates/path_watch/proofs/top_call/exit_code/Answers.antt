use Rattle.std.proofs.Common.{ap, ◌∙◌, map, string_bytes}
use Rattle.planner.proofs.ConcludedCalls.{no_words}
use Rattle.path_watch.proofs.Words.{orders_of}
use Rattle.path_watch.proofs.WatchedScenes.{status_of_ending-words}
use Rattle.path_watch.proofs.top_call.exit_code.Goals as goal

pub returns-in-Ok-clause-no_text : goal.returns-in-Ok-clause-no_text
returns-in-Ok-clause-no_text g c = λ no_text.
    let none = ap (λ words. orders_of (map string_bytes words)) (c.deref.ensures.value ∙ c.in-Ok.ensures.words ∙ no_words _ no_text) in
    rw (c.from.ensures, c.status.ensures) (status_of_ending-words _ _ _ _ c.watch.result (rw none at c.watch.ensures))
