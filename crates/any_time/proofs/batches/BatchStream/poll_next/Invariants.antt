use Rattle.std.proofs.Common.{◌≡◌}
use Rattle.any_time.proofs.TurnLoop.{IsTurning}
use Rattle.any_time.proofs.batches.BatchStream.poll_next.Given as goal

abbrev pub invariant-loop-place : goal.invariant-loop-place
invariant-loop-place g l =
    IsTurning l.from l.initial.self-inside.sessions.items l.self-inside.sessions.items l.place l.is_pending l.initial.cx l.cx
    × (l.self-inside.last ≡ l.initial.self-inside.last) × (l.self-inside.failed ≡ l.initial.self-inside.failed)
    × (l.self-inside.runs ≡ l.initial.self-inside.runs)
