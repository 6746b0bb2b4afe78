use Rattle.any_time.proofs.Words.{◌≡◌, ◌++◌, take, string_bytes, better_lines}
use Rattle.any_time.proofs.better_reports.push_better_lines.Given as goal

abbrev pub invariant-loop-item : goal.invariant-loop-item
invariant-loop-item l =
    string_bytes l.text ≡ string_bytes l.initial.text ++ better_lines (take l.item-index l.items)
