use Rattle.report_judge.proofs.Words.{◌≡◌, suc, ◌+◌, ◌≤◌, length, arith, refl, sym, ap, ◌∙◌, subst, Task, Broken, IsVerdict, bytes_of, extent_of}
use Rattle.report_judge.proofs.Words.{best_priced_path, tally_of, HasForm, head_lines, Sheet, state_of_sheet, priced_path, sheet_read, Goal, Knot, List, Option}
use Rattle.report_judge.proofs.Words.{[], best_node, path_by, state_of_lists, ◌-◌}
use Rattle.report_judge.proofs.Laws.SheetFacts.{few_knots, few_records, settled_of_law}
use Rattle.report_judge.proofs.Texts.SheetLines.{head_few}
use Rattle.report_judge.proofs.Laws.SheetVerdicts.{best_path-listed, broken_head, lawful_sheet, tally-listed}
use Rattle.report_judge.proofs.verdicts.head_verdict.Goals as goal
use Rattle.report_judge.proofs.verdicts.head_verdict.Goals.{After-first_wrong_head_line}

pub best_path-requires-clause-few : goal.best_path-requires-clause-few
best_path-requires-clause-few c = rw c.deref.ensures.value (few_knots c.args.task.now (sheet_read c.args.sheet.now) c.requires.form)

pub best_path-requires-clause-settled : goal.best_path-requires-clause-settled
best_path-requires-clause-settled c =
    rw c.deref.ensures.value (settled_of_law c.args.task.now (sheet_read c.args.sheet.now) c.requires.form c.requires.start c.requires.nodes)

pub present_count-nodes-requires : goal.present_count-nodes-requires
present_count-nodes-requires c = rw c.deref-2.ensures.value (few_knots c.args.task.now (sheet_read c.args.sheet.now) c.requires.form)

pub counted-tally-requires : goal.counted-tally-requires
counted-tally-requires c =
    omega (arith, ap length c.deref-3.ensures.value, few_records c.args.task.now (sheet_read c.args.sheet.now) c.requires.form)

-- the head has no more lines than the report has bytes
few_lines : (task : Task) (sheet : Sheet) → HasForm (extent_of task) sheet → length (head_lines sheet.path sheet.tally) ≤ length (bytes_of sheet)
few_lines task sheet form = head_few (extent_of task) (bytes_of sheet) sheet (record { form = form; text = refl })

pub first_wrong_head_line-requires : goal.first_wrong_head_line-requires
first_wrong_head_line-requires c =
    record { few = omega (arith, few_lines c.args.task.now (sheet_read c.args.sheet.now) c.requires.form, c.requires.short) }

pub overflow_add-line : goal.overflow_add-line
overflow_add-line c =
    omega (arith, c.in-Some.ensures.0, few_lines c.args.task.now (sheet_read c.args.sheet.now) c.requires.form, c.requires.short)

pub broken-requires : goal.broken-requires
broken-requires c =
    omega (arith, c.in-Some.ensures.0, few_lines c.args.task.now (sheet_read c.args.sheet.now) c.requires.form, c.requires.short)

-- the path and the counts are the run's
own_path : (c : After-first_wrong_head_line)
    → priced_path c.in_ok-path.path ≡ best_priced_path c.args.task.now.scene (length c.args.task.now.marks) (state_of_sheet (sheet_read c.args.sheet.now))
own_path c =
    best_path-listed c.args.task.now (sheet_read c.args.sheet.now) c.requires.form.numbers (priced_path c.in_ok-path.path)
    (subst
    (λ (gs : List Goal). priced_path c.in_ok-path.path
    ≡ path_by (state_of_lists c.args.sheet.now.knots.items [])
    (best_node gs (length c.args.sheet.now.knots.items - 1) (state_of_lists c.args.sheet.now.knots.items []))) c.as_slice.ensures
    (subst
    (λ (ks : List (Option Knot)). priced_path c.in_ok-path.path
    ≡ path_by (state_of_lists ks []) (best_node c.as_slice.result.now (length ks - 1) (state_of_lists ks []))) c.deref.ensures.value c.in_ok-path.ensures))

own_tally : (c : After-first_wrong_head_line)
    → c.counted-tally.result ≡ tally_of c.args.task.now.scene (length c.args.task.now.marks) (state_of_sheet (sheet_read c.args.sheet.now))
own_tally c =
    let sheet = sheet_read c.args.sheet.now in
    let told = c.counted-tally.ensures in
    tally-listed c.args.task.now sheet c.requires.form.all_marks c.counted-tally.result
    (told.nodes ∙ (rw c.deref-2.ensures.value at c.present_count-nodes.ensures) sheet.records) (rw c.deref-3.ensures.value at told.placed)
    (rw c.deref-3.ensures.value at told.same) (rw c.deref-3.ensures.value at told.blocked) ((rw c.deref-3.ensures.value at told.skipped) sheet.knots)

pub returns-in-Some : goal.returns-in-Some
returns-in-Some c =
    let at = (goal.at.returns-in-Some c).After-first_wrong_head_line in
    let sheet = sheet_read c.args.sheet.now in
    let line : suc c.in-Some.line ≡ c.in-Some.line + 1 = omega arith in
    subst (IsVerdict c.args.task.now (bytes_of sheet)) (sym c.broken.ensures)
    (subst (λ n. IsVerdict c.args.task.now (bytes_of sheet) (Broken n 6)) line
    (broken_head c.args.task.now sheet c.requires.form c.requires.nodes c.requires.turns c.requires.presence c.requires.lawful
    (priced_path c.in_ok-path.path) c.counted-tally.result (own_path at) (own_tally at) c.in-Some.line c.in-Some.ensures))

pub returns : goal.returns
returns c =
    let at = (goal.at.returns c).After-first_wrong_head_line in
    let sheet = sheet_read c.args.sheet.now in
    lawful_sheet c.args.task.now sheet c.requires.form c.requires.nodes c.requires.turns c.requires.presence c.requires.lawful
    (priced_path c.in_ok-path.path) c.counted-tally.result (own_path at) (own_tally at) c.requires.start c.in-None.ensures
