use Rattle.report_judge.proofs.Words.{◌≡◌, ℕ, ◌+◌, ◌<◌, ◌≤◌, List, [], length, true, arith, sym, ap, ◌∙◌, subst, inl, inr, ◌⊎◌, ◌≢◌, ◌==◌, eqb-true, false≢true}
use Rattle.report_judge.proofs.Words.{nil_from_length, BreaksFormFirst, Extent, path_lines, priced_path}
use Rattle.report_judge.proofs.Texts.FormBreaks.{ReadsTree, all_lines_few, breaks_counts, breaks_marks, breaks_nodes, spells_sheet, tree_lines_few}
use Rattle.report_judge.proofs.reading.sheets.read_sheet.Goals as goal
use Rattle.report_judge.proofs.reading.sheets.read_sheet.Goals.{After-len-then-len-marks, In_ok-nodes}
use Rattle.report_judge.proofs.reading.sheets.read_sheet.Goals.{then-len-marks-via-then-len-marks, then-len-marks-via-else-len-marks+then-not-is_empty}

pub returns-in_default-clause-broken : goal.returns-in_default-clause-broken
returns-in_default-clause-broken c =
    let extent : Extent = record { marks = c.args.marks; informed = c.args.informed } in
    subst (BreaksFormFirst extent c.args.report.now) (ap (λ n. n + 1) (sym c.path_line_count-counts_line.ensures))
    (breaks_counts extent c.args.report.now (priced_path c.in-Ok.read.0) c.in-Ok.read.1.now (rw c.in-Ok.is at c.in_ok-read.ensures.fits)
    (rw c.in-Ok.is at c.in_ok-read.ensures.text) c.in_default.ensures.none)

-- what was read up to the nodes
abbrev ReadsAll : In_ok-nodes → Type 0
ReadsAll c = ReadsTree (record { marks = c.args.marks; informed = c.args.informed }) c.args.report.now (priced_path c.in-Ok.read.0)
    c.in-Some.tally c.in_ok-nodes.nodes.knots.items c.in_ok-nodes.nodes.count c.in_ok-nodes.rest.now

tree : (c : In_ok-nodes) → ReadsAll c
tree c = record {
  front = c.in-Ok.read.1.now;
  middle = c.in-Some.rest.now;
  path_fits = rw c.in-Ok.is at c.in_ok-read.ensures.fits;
  path_is = rw c.in-Ok.is at c.in_ok-read.ensures.text;
  tally_fits = c.in-Some.ensures.fits;
  tally_is = c.in-Some.ensures.some;
  nodes = c.in_ok-nodes.ensures;
}

few : (c : In_ok-nodes) → c.path_line_count-counts_line.result + 1 + c.in_ok-nodes.nodes.count ≤ length c.args.report.now
few c = omega (arith, c.path_line_count-counts_line.ensures, tree_lines_few (tree c))

pub overflow_add-nodes_end : goal.overflow_add-nodes_end
overflow_add-nodes_end c = omega (arith, few (goal.at.overflow_add-nodes_end c).In_ok-nodes, c.requires.short)

pub overflow_add-result : goal.overflow_add-result
overflow_add-result c = omega (arith, few (goal.at.overflow_add-result c).In_ok-nodes, c.requires.short)

pub returns-then-nodes-eq0-clause-broken : goal.returns-then-nodes-eq0-clause-broken
returns-then-nodes-eq0-clause-broken c =
    let extent : Extent = record { marks = c.args.marks; informed = c.args.informed } in
    let lacking : (c.in_ok-nodes.nodes.count ≡ 0) ⊎ (c.in_ok-nodes.nodes.count < c.in-Some.tally.nodes) =
    elim c.then-nodes-eq0.either [
      | inl none ↦ inl none
      | inr both ↦ inr both.1
    ] in
    subst (BreaksFormFirst extent c.args.report.now) (ap (λ n. n + 1 + c.in_ok-nodes.nodes.count + 1) (sym c.path_line_count-counts_line.ensures))
    (breaks_nodes (tree (goal.at.returns-then-nodes-eq0-clause-broken c).In_ok-nodes) lacking)

-- all nodes were read
all : (c : After-len-then-len-marks) → c.in_ok-nodes.nodes.count ≡ c.in-Some.tally.nodes
all c = omega (arith, c.if-nodes-tally.false, (c.in_ok-nodes.ensures).few)

few_all : (c : After-len-then-len-marks)
    → ReadsTree (record { marks = c.args.marks; informed = c.args.informed }) c.args.report.now (priced_path c.in-Ok.read.0)
    c.in-Some.tally c.in_ok-nodes.nodes.knots.items c.in_ok-nodes.nodes.count c.in_ok-nodes.rest.now
    → c.path_line_count-counts_line.result + 1 + c.in_ok-nodes.nodes.count + c.len-then-len-marks.result ≤ length c.args.report.now
few_all c read =
    omega (
      arith,
      c.path_line_count-counts_line.ensures,
      c.len-then-len-marks.ensures,
      c.in_ok-records.records.ok,
      all_lines_few read (all c) (omega (arith, c.if-nodes-eq0.false)) c.in_ok-records.ensures,
    )

pub overflow_add-result-then-len-marks : goal.overflow_add-result-then-len-marks
overflow_add-result-then-len-marks c =
    omega (arith, few_all c (tree (goal.at.overflow_add-result-then-len-marks c).In_ok-nodes), c.requires.short)

pub overflow_add-result-then-len-marks-2 : goal.overflow_add-result-then-len-marks-2
overflow_add-result-then-len-marks-2 c =
    let at = goal.at.overflow_add-result-then-len-marks-2 c in
    omega (arith, few_all at.After-len-then-len-marks (tree at.In_ok-nodes), c.requires.short)

pub returns-then-len-marks-clause-broken : goal.returns-then-len-marks-clause-broken
returns-then-len-marks-clause-broken c =
    let extent : Extent = record { marks = c.args.marks; informed = c.args.informed } in
    let at = goal.at.returns-then-len-marks-clause-broken c in
    let lacking : (length c.in_ok-records.records.items < c.args.marks) ⊎ (c.in_ok-records.rest.now ≢ []) =
    elim c.then-len-marks.branch [
      | then-len-marks-via-then-len-marks w ↦ inl (omega (arith, w.if-len-marks.true, c.len.ensures, c.in_ok-records.records.ok))
      | then-len-marks-via-else-len-marks+then-not-is_empty w ↦ inr (λ none.
          let zero : (length c.in_ok-records.rest.now == 0) ≡ true = ap (λ (r : List ℕ). length r == 0) none in
          false≢true (w.if-not-is_empty.ensures ∙ zero))
    ] in
    let number : length (path_lines (priced_path c.in-Ok.read.0)) + 1 + c.in_ok-nodes.nodes.count + length c.in_ok-records.records.items + 1
    ≡ c.path_line_count-counts_line.result + 1 + c.in_ok-nodes.nodes.count + c.len-then-len-marks.result + 1 =
    omega (arith, c.path_line_count-counts_line.ensures, c.len-then-len-marks.ensures, c.in_ok-records.records.ok) in
    subst (BreaksFormFirst extent c.args.report.now) number
    (breaks_marks (tree at.In_ok-nodes) (all at.After-len-then-len-marks) (omega (arith, c.if-nodes-eq0.false)) c.in_ok-records.ensures lacking)

pub returns-clause-spelled : goal.returns-clause-spelled
returns-clause-spelled c =
    let told = c.in_ok-records.ensures in
    spells_sheet (tree (goal.at.returns-clause-spelled c).In_ok-nodes)
    (omega (arith, c.if-nodes-tally.false, (c.in_ok-nodes.ensures).few)) (omega (arith, c.if-nodes-eq0.false)) told
    (omega (arith, c.if-len-marks.false, c.len.ensures, c.in_ok-records.records.ok, told.few))
    (nil_from_length c.in_ok-records.rest.now (eqb-true (length c.in_ok-records.rest.now) 0 (sym c.if-not-is_empty.ensures)))
