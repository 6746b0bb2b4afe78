use Rattle.settle_report.proofs.Words.{◌≡◌, ◌++◌, string_bytes, mark_lines, state_of_grown}
use Rattle.settle_report.proofs.mark_lines.push_mark_lines.Given as goal

-- the lines of the marks so far
abbrev pub invariant-loop-mark : goal.invariant-loop-mark
invariant-loop-mark l = string_bytes l.text ≡ string_bytes l.initial.text ++ mark_lines l.mark (state_of_grown l.grown)
