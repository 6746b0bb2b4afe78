use Rattle.report_judge.specs.Workers.OwnNodes.{HasNo}
use Rattle.report_judge.proofs.own.searches.has_one_in.Given as goal

-- none of the stretch so far is one of the search
abbrev pub invariant-loop-position : goal.invariant-loop-position
invariant-loop-position g l =
    HasNo (g.S.Search.finds l.search (g.C.Clearing.space l.hall) l.judged.standings.now) l.judged.own.now l.fn.stretch.start l.position
