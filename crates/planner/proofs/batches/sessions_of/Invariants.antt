use Rattle.planner.proofs.Words.{◌≡◌, length, HaveSessions}
use Rattle.planner.proofs.batches.sessions_of.Given as goal

abbrev pub invariant-loop-scene : goal.invariant-loop-scene
invariant-loop-scene g l =
    (length l.sessions.items ≡ length l.yielded) × HaveSessions l.workers l.slice l.fn.scenes.items l.sessions.items (length l.yielded)
