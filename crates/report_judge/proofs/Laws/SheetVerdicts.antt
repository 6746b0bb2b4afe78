-- The verdict on a sheet in form, by the first node, mark or line of the head that breaks a law.
use Rattle.report_judge.proofs.Words.{◌≡◌, ℕ, suc, ◌-◌, ◌<◌, ◌≤◌, List, [], length, Option, Some, None, arith, refl, ap, length-append, ◌∙◌, subst, inl, inr}
use Rattle.report_judge.proofs.Words.{is_some, slice_get, both_ways, cases_Bool, Record, Task, Knot, outcome_count, is_placed, is_same, is_blocked, setup_of}
use Rattle.report_judge.proofs.Words.{ClearAt, space_of, best_node, goals_of, without_costs, IsPresent, node_count, point_at, present_below, state_of_lists}
use Rattle.report_judge.proofs.Words.{Lawful, Broken, IsFirstBreak, KeepsHead, KeepsNode, KeepsTurn, IsVerdict, Extent, lines_text, extent_of, PricedPath}
use Rattle.report_judge.proofs.Words.{Sheet, HasForm, SpellsSheet, head_lines, lines_of_sheet, state_of_sheet, number_of_mark_line, number_of_node_line}
use Rattle.report_judge.proofs.Words.{HasOwnTurn, KeepsLaw, best_priced_path, path_by, skipped_of, tally_of, IsBroken, BreaksFormFirst, Tally}
use Rattle.report_judge.proofs.Laws.BrokenLines.{BreaksLawFirst-heads, BreaksLawFirst-marks, BreaksLawFirst-nodes, IsLawful-six, IsMarkLaw, KeepsHeads}
use Rattle.report_judge.proofs.Laws.BrokenLines.{KeepsLaw-heads, KeepsLaw-nodes, KeepsTurns}
use Rattle.report_judge.proofs.Laws.LawfulSheets.{IsReportOfRun-lawful, length-without_costs}
use Rattle.report_judge.proofs.Laws.ListedNodes.{listed}
use Rattle.report_judge.proofs.Laws.OneVerdict.{not_both}
use Rattle.report_judge.proofs.Laws.ReportsOfRuns.{IsLawful-report}
use Rattle.report_judge.proofs.Texts.SheetLines.{lines_few, mark_line_low, node_line_low}

module _ (task : Task) (sheet : Sheet) (form : HasForm (extent_of task) sheet) where
  -- the bytes of the sheet
  abbrev pub bytes : List ℕ
  bytes = lines_text (lines_of_sheet sheet)

  spelled : SpellsSheet (extent_of task) bytes sheet
  spelled = record { form = form; text = refl }

  verdict : (law line : ℕ) → IsBroken task bytes law line → IsVerdict task bytes (Broken line law)
  verdict law line broken = (broken, λ run. not_both task bytes law line (IsLawful-report task bytes run) broken)

  -- ---- lines

  -- a number that breaks the law of nodes is that of a node
  breaking_present : (n : ℕ) → ¬ KeepsNode (setup_of task.scene) sheet.knots sheet.records n → IsPresent (state_of_sheet sheet).points n
  breaking_present n broken =
      elim (cases_Bool (is_some (point_at (state_of_sheet sheet).points n))) [
        | inl here ↦ here
        | inr none ↦ absurd (broken (λ here. absurd (both_ways (is_some (point_at (state_of_sheet sheet).points n)) none here)))
      ]

  pub node_low : (n : ℕ) → IsFirstBreak (KeepsNode (setup_of task.scene) sheet.knots sheet.records) (length sheet.knots) (Some n)
      → number_of_node_line sheet n ≤ length bytes
  node_low n first =
      let own = listed sheet.knots sheet.records n (breaking_present n first.2) in
      node_line_low (extent_of task) bytes sheet spelled n own.knot first.0 own.at

  pub mark_low : (k : ℕ) → k < length sheet.records → number_of_mark_line sheet k ≤ length bytes
  mark_low k low = mark_line_low (extent_of task) bytes sheet spelled k low

  -- ---- nodes

  within : (n : ℕ) → IsPresent (state_of_sheet sheet).points n → n < length sheet.knots
  within n here = omega (arith, present_below (without_costs sheet.knots) n here, length-without_costs sheet.knots)

  pub kept_nodes : IsFirstBreak (KeepsNode (setup_of task.scene) sheet.knots sheet.records) (length sheet.knots) None → KeepsLaw task sheet 2
  kept_nodes none = KeepsLaw-nodes task sheet within none

  pub broken_node : (n : ℕ) → IsFirstBreak (KeepsNode (setup_of task.scene) sheet.knots sheet.records) (length sheet.knots) (Some n)
      → IsVerdict task bytes (Broken (number_of_node_line sheet n) 2)
  broken_node n first = verdict 2 (number_of_node_line sheet n) (inr (BreaksLawFirst-nodes task sheet bytes spelled n first))

  -- ---- marks

  pub broken_by : {law : ℕ} {Keeps : ℕ → Type 0} → IsMarkLaw task sheet law Keeps → ((other : ℕ) → other < law → KeepsLaw task sheet other) → (k : ℕ)
      → IsFirstBreak Keeps (length sheet.records) (Some k) → IsVerdict task bytes (Broken (number_of_mark_line sheet k) law)
  broken_by {law} own lesser k first =
      verdict law (number_of_mark_line sheet k) (inr (BreaksLawFirst-marks task sheet bytes spelled own lesser k first))

  -- (there are as many records as marks)
  pub turns_by : (first : Option ℕ) → IsFirstBreak (KeepsTurn sheet.records) (length sheet.records) first
      → IsFirstBreak (KeepsTurns task sheet) (length sheet.records) first
  turns_by first h =
      subst
      (λ m. IsFirstBreak (λ k. (entry : Record) → slice_get sheet.records k ≡ Some entry → HasOwnTurn m (slice_get sheet.records) k entry)
      (length sheet.records) first)
      form.all_marks h

  -- ---- the head

  module _ (two : KeepsLaw task sheet 2) (three : KeepsLaw task sheet 3) (four : KeepsLaw task sheet 4) (five : KeepsLaw task sheet 5)
      (path : Option PricedPath) (tally : Tally) (own_path : path ≡ best_priced_path task.scene (length task.marks) (state_of_sheet sheet))
      (own_tally : tally ≡ tally_of task.scene (length task.marks) (state_of_sheet sheet)) where
    heads_by : (first : Option ℕ) → IsFirstBreak (KeepsHead sheet.path sheet.tally path tally) (length (head_lines sheet.path sheet.tally)) first
        → IsFirstBreak (KeepsHeads task sheet) (length (head_lines sheet.path sheet.tally)) first
    heads_by first h = rw (← own_path, ← own_tally) h

    pub broken_head : (i : ℕ) → IsFirstBreak (KeepsHead sheet.path sheet.tally path tally) (length (head_lines sheet.path sheet.tally)) (Some i)
        → IsVerdict task bytes (Broken (suc i) 6)
    broken_head i first =
        verdict 6 (suc i) (inr (BreaksLawFirst-heads task sheet bytes spelled two three four five i (heads_by (Some i) first)))

    pub lawful_sheet : ClearAt (space_of task.scene) task.scene.start
        → IsFirstBreak (KeepsHead sheet.path sheet.tally path tally) (length (head_lines sheet.path sheet.tally)) None → IsVerdict task bytes Lawful
    lawful_sheet clear none =
        IsReportOfRun-lawful task bytes clear
        (IsLawful-six task sheet bytes spelled two three four five (KeepsLaw-heads task sheet (heads_by None none)))

-- ---- the own path

path_by-same : (knots : List (Option Knot)) (records : List Record) (o : Option ℕ)
    → path_by (state_of_lists knots []) o ≡ path_by (state_of_lists knots records) o
path_by-same knots records None = refl
path_by-same knots records (Some n) = refl

-- the best path does not depend on the records
pub best_path-listed : (task : Task) (sheet : Sheet) → length sheet.knots ≡ suc (length task.marks) → (path : Option PricedPath)
    → path ≡ path_by (state_of_lists sheet.knots []) (best_node (goals_of task.scene) (length sheet.knots - 1) (state_of_lists sheet.knots []))
    → path ≡ best_priced_path task.scene (length task.marks) (state_of_sheet sheet)
best_path-listed task sheet long path is =
    let limit : length sheet.knots - 1 ≡ length task.marks = omega (arith, long) in
    is ∙ path_by-same sheet.knots sheet.records (best_node (goals_of task.scene) (length sheet.knots - 1) (state_of_lists sheet.knots []))
    ∙ ap (λ m. path_by (state_of_sheet sheet) (best_node (goals_of task.scene) m (state_of_sheet sheet))) limit

-- counts that are those of the tree and the records
pub tally-listed : (task : Task) (sheet : Sheet) → length sheet.records ≡ length task.marks → (tally : Tally)
    → tally.nodes ≡ node_count (state_of_sheet sheet).points
    → tally.placed ≡ outcome_count (slice_get sheet.records) (length sheet.records) is_placed
    → tally.same ≡ outcome_count (slice_get sheet.records) (length sheet.records) is_same
    → tally.blocked ≡ outcome_count (slice_get sheet.records) (length sheet.records) is_blocked
    → tally.skipped ≡ skipped_of task.scene.informed (length sheet.records) (state_of_sheet sheet)
    → tally ≡ tally_of task.scene (length task.marks) (state_of_sheet sheet)
tally-listed task sheet long tally nodes placed same blocked skipped =
    subst (λ m. tally ≡ tally_of task.scene m (state_of_sheet sheet)) long
    (λ i. record { nodes = nodes i; placed = placed i; same = same i; blocked = blocked i; skipped = skipped i })

-- bytes that break the form
pub broken_form : (task : Task) (report : List ℕ) (line : ℕ) → BreaksFormFirst (extent_of task) report line → IsVerdict task report (Broken line 1)
broken_form task report line first =
    let broken : IsBroken task report 1 line = inl (refl, first) in
    (broken, λ run. not_both task report 1 line (IsLawful-report task report run) broken)

-- the line of a form that is broken is at most one more than the bytes
pub form_low : (extent : Extent) (report : List ℕ) (line : ℕ) → BreaksFormFirst extent report line → line ≤ suc (length report)
form_low extent report line first =
    omega (
      arith,
      first.number,
      ap length first.text,
      length-append (lines_text first.before) first.rest,
      lines_few first.before,
    )
