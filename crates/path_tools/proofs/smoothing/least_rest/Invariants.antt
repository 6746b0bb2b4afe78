use Rattle.path_tools.specs.SmoothPaths.{IsRestBelow}
use Rattle.path_tools.proofs.smoothing.least_rest.Given as goal

abbrev pub invariant-loop-next : goal.invariant-loop-next
invariant-loop-next g l = IsRestBelow (g.C.Clearing.space l.hall) l.path l.next l.position l.best
