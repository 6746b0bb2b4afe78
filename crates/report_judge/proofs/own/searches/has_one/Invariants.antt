use Rattle.report_judge.proofs.Words.{◌-◌, length, HasNo}
use Rattle.report_judge.proofs.own.searches.has_one.Given as goal

-- none so far is one of the search
abbrev pub invariant-walk : goal.invariant-walk
invariant-walk g l = HasNo (g.S.Search.finds l.search (g.C.Clearing.space l.hall) l.judged.standings.now) l.judged.own.now 0 l.at

abbrev pub decreases-walk : goal.decreases-walk
decreases-walk g l = length l.judged.own.now - l.at
