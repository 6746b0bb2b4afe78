use Rattle.settle_report.proofs.Words.{◌++◌, string_bytes, sym, ap, ◌∙◌, mark_line_if_recorded, state_of_grown}
use Rattle.settle_report.proofs.NumberedLines.{lines-pushed}
use Rattle.settle_report.proofs.mark_lines.push_mark_lines.Goals as goal

pub loop-mark-preserved : goal.loop-mark-preserved
loop-mark-preserved c =
    let records = (state_of_grown c.args.grown.now).record_of in
    let mark = c.loop-mark.mark in
    lines-pushed (λ k. mark_line_if_recorded k (records k)) mark (string_bytes c.args.text.now) (string_bytes c.loop-mark.text) _ c.loop-mark.invariant
    (c.in_ok-push_mark_line.ensures
    ∙ ap (λ entry. string_bytes c.loop-mark.text ++ mark_line_if_recorded mark entry) (sym c.record_of.ensures))
