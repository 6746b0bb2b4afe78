use Rattle.path_tools.specs.SmoothPaths.{AreRestsFrom}
use Rattle.path_tools.proofs.smoothing.least_rests.Given as goal

abbrev pub invariant-loop-position : goal.invariant-loop-position
invariant-loop-position g l = AreRestsFrom (g.C.Clearing.space l.hall) l.path l.position l.rests.items
