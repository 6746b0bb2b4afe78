use Rattle.settle_report.proofs.Words.{ℕ, ◌<◌, state_of_grown, IsTight}
use Rattle.settle_report.proofs.settling.is_settled.Given as goal

-- The nodes so far are tight.
abbrev pub invariant-loop-node : goal.invariant-loop-node
invariant-loop-node l = (n : ℕ) → 0 < n → n < l.node → IsTight (state_of_grown l.grown) n
