use Rattle.kd_shared.proofs.NearestPasses.{IsSeekingPass}
use Rattle.kd_shared.proofs.nearest_search.nearest.Given as goal

abbrev pub invariant-visits : goal.invariant-visits
invariant-visits l = record { seeks : IsSeekingPass l.shared l.fn.pass l.pass l.p l.best.distance l.best.node l.here l._visit }
