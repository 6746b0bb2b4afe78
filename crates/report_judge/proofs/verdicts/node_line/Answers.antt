use Rattle.report_judge.proofs.Words.{List, [], take, Option, arith, ◌∙◌, ap, count_by, is_some, Knot, node_count-lists, sheet_read}
use Rattle.report_judge.proofs.Texts.SheetForms.{length-head_lines}
use Rattle.report_judge.proofs.verdicts.node_line.Goals as goal

pub returns : goal.returns
returns c =
    let sheet = sheet_read c.args.sheet.now in
    omega (
      arith,
      c.path_line_count.ensures,
      c.present_count.ensures [] ∙ node_count-lists (take c.args.node c.deref.result.now)
          ∙ ap (λ (ks : List (Option Knot)). count_by is_some (take c.args.node ks)) c.deref.ensures.value,
      length-head_lines sheet.path sheet.tally,
    )
