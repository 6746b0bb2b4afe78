use Rattle.planner.proofs.Words.{length, ap, ◌∙◌, skip_source, into_iter_items, items_from_collect, YieldsList-from_vec, YieldsList-from_skip}
use Rattle.planner.proofs.command_line.words_after_name.Goals as goal

pub returns-in_ok-collect-in-Ok-clause-words : goal.returns-in_ok-collect-in-Ok-clause-words
returns-in_ok-collect-in-Ok-clause-words c =
    let source = skip_source c.skip.result in
    let items = ap into_iter_items c.skip.ensures.source in
    let rest = YieldsList-from_skip 1 (YieldsList-from_vec {s = source} _ items (source.rest.ok.0 ∙ ap length items)) c.skip.ensures.count in
    rw c.in-Ok.is (rw c.in_ok-collect-in-Ok.was at (items_from_collect c.collect.result c.collect.ensures.ran rest))
