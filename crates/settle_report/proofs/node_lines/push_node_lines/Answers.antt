use Rattle.settle_report.proofs.Words.{◌≡◌, suc, ◌++◌, string_bytes, arith, ap, ◌∙◌, range_with_len, flat_map, point_at, node_line_if_present}
use Rattle.settle_report.proofs.Words.{state_of_grown}
use Rattle.settle_report.proofs.NumberedLines.{lines-pushed}
use Rattle.settle_report.proofs.node_lines.push_node_lines.Goals as goal

pub loop-node-preserved : goal.loop-node-preserved
loop-node-preserved c =
    let state = state_of_grown c.args.grown.now in
    lines-pushed (λ n. node_line_if_present state n (point_at state.points n)) c.loop-node.node (string_bytes c.args.text.now)
    (string_bytes c.loop-node.text) _ c.loop-node.invariant c.in_ok-push_line_if_present.ensures

pub returns : goal.returns
returns c =
    let grown = c.args.grown.now in
    let state = state_of_grown grown in
    let all : c.loop-node.node ≡ suc grown.limit = omega (arith, c.limit-node-end.ensures) in
    c.loop-node.invariant
    ∙ ap
    (λ n. string_bytes c.args.text.now ++ flat_map (λ n. node_line_if_present state n (point_at state.points n)) (range_with_len 0 n))
    all
