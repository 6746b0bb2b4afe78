use Rattle.any_time.proofs.Words.{◌≡◌, ◌≤◌, Some, length, map, take, vec_capacity, SessionState}
use Rattle.any_time.proofs.batches.runs_of.Given as goal

abbrev pub invariant-loop-session : goal.invariant-loop-session
invariant-loop-session g l =
    (length l.runs.items ≡ length l.yielded) × (length l.fn.sessions.items ≤ vec_capacity l.runs)
    × (map Some l.runs.items ≡ map (λ (s : SessionState). s.run) (take (length l.yielded) l.fn.sessions.items))
