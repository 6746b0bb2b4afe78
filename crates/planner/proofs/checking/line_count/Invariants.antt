use Rattle.planner.proofs.Words.{◌≡◌, ◌≤◌, ◌+◌, length, lines_of}
use Rattle.planner.proofs.checking.line_count.Given as goal

-- the lines so far are counted, and each has a byte at least
abbrev pub invariant-lines : goal.invariant-lines
invariant-lines l = (l.count + length (lines_of l.rest) ≡ length (lines_of l.text)) × (l.count + length l.rest ≤ length l.text)

abbrev pub decreases-lines : goal.decreases-lines
decreases-lines l = length l.rest
