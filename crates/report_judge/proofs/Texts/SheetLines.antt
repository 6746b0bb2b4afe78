-- The number of each line of a sheet is at most that of the bytes.
use Rattle.report_judge.proofs.Words.{◌≡◌, ℕ, ◌+◌, ◌<◌, ◌≤◌, true, cond, List, [], ◌∷◌, length, take, Option, Some, None, arith, sym, ap, ◌∙◌, length-append}
use Rattle.report_judge.proofs.Words.{is_some, count_by, slice_index_or, join_with_byte, take_more, sum_by_push, sum_by-take-le, Knot, ReportLine, Extent}
use Rattle.report_judge.proofs.Words.{line_words, line_text, lines_text, Sheet, head_lines, lines_of_knots, lines_of_records, lines_of_sheet, SpellsSheet}
use Rattle.report_judge.proofs.Words.{number_of_node_line, number_of_mark_line}
use Rattle.report_judge.proofs.Texts.SheetForms.{AreAll-sheet, counts_place-tree, nodes_to_come-tree, length-head_lines, length-lines_of_knots, length-nodes}

-- each line has a byte
pub lines_few : (lines : List ReportLine) → length lines ≤ length (lines_text lines)
lines_few [] = omega arith
lines_few (next ∷ lines) =
    omega (
      arith,
      length-append (line_text next) (lines_text lines),
      length-append (join_with_byte 32 (line_words next)) (10 ∷ []),
      lines_few lines,
    )

module _ (extent : Extent) (report : List ℕ) (sheet : Sheet) (spelled : SpellsSheet extent report sheet) where
  abbrev nodes : List ReportLine
  nodes = lines_of_knots sheet.knots

  abbrev marks : List ReportLine
  marks = lines_of_records sheet.records

  abbrev lines : List ReportLine
  lines = lines_of_sheet sheet

  count : count_by is_some sheet.knots ≡ sheet.tally.nodes
  count = sym (length-lines_of_knots sheet.knots) ∙ length-nodes extent sheet spelled.form

  total : length lines ≡ length (head_lines sheet.path sheet.tally) + count_by is_some sheet.knots + length sheet.records
  total =
      let place = counts_place-tree sheet.path sheet.tally nodes marks in
      let come = nodes_to_come-tree sheet.path sheet.tally nodes marks in
      omega (arith, (AreAll-sheet extent sheet spelled.form).long, place, come, count, length-head_lines sheet.path sheet.tally, spelled.form.all_marks)

  few : length lines ≤ length report
  few = omega (arith, ap length spelled.text, lines_few lines)

  pub mark_line_low : (k : ℕ) → k < length sheet.records → number_of_mark_line sheet k ≤ length report
  mark_line_low k low = omega (arith, low, total, few)

  pub head_few : length (head_lines sheet.path sheet.tally) ≤ length report
  head_few = omega (arith, total, few)

  -- a present node is counted beside those below it
  one_more : (n : ℕ) → n < length sheet.knots → is_some (slice_index_or sheet.knots n None) ≡ true
      → count_by is_some (take n sheet.knots) + 1 ≤ count_by is_some sheet.knots
  one_more n low some =
      let one : Option Knot → ℕ = λ o. cond {A = ℕ} (is_some o) 1 0 in
      omega (
        arith,
        ap (count_by is_some) (take_more sheet.knots n None low),
        sum_by_push one (take n sheet.knots) (slice_index_or sheet.knots n None),
        ap (λ b. cond {A = ℕ} b 1 0) some,
        sum_by-take-le one sheet.knots (n + 1),
      )

  pub node_line_low : (n : ℕ) (knot : Knot) → n < length sheet.knots → slice_index_or sheet.knots n None ≡ Some knot
      → number_of_node_line sheet n ≤ length report
  node_line_low n knot low is = omega (arith, total, few, one_more n low (ap is_some is))
