-- The words of a closed run: no node has a number past the limit.
use Rattle.grown_runs.proofs.Words.{◌≡◌, ℕ, zero, suc, ◌<◌, false, arith, ap, Task, Words, HoldRun, has_placed, has_node}

pub none_past-held : (task : Task) (limit : ℕ) (words : Words) → HoldRun task limit words → (n : ℕ) → limit < n → has_node words n ≡ false
none_past-held task limit words held zero past = absurd (omega (arith, past))
none_past-held task limit words held (suc k) past = ap has_placed (held.closed.records.none_else k (omega (arith, past)))
