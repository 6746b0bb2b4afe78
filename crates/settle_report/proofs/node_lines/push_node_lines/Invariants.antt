use Rattle.settle_report.proofs.Words.{◌≡◌, ◌++◌, string_bytes, range_with_len, flat_map, point_at, node_line_if_present, state_of_grown}
use Rattle.settle_report.proofs.node_lines.push_node_lines.Given as goal

-- the lines of the numbers so far
abbrev pub invariant-loop-node : goal.invariant-loop-node
invariant-loop-node l =
    string_bytes l.text
    ≡ string_bytes l.initial.text
    ++ flat_map (λ n. node_line_if_present (state_of_grown l.grown) n (point_at (state_of_grown l.grown).points n)) (range_with_len 0 l.node)
