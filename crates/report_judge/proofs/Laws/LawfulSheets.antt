-- A sheet that keeps every law is the full report of a settled run that is closed over all marks.
use Rattle.report_judge.proofs.Words.{◌≡◌, ℕ, suc, ◌+◌, ◌<◌, true, List, [], ◌∷◌, length, map, Option, Some, None, arith, refl, sym, ap, ◌∙◌, get_or}
use Rattle.report_judge.proofs.Words.{length-append, is_some, option_map, slice_get, false_from_ne_true, length-map, ext_get_or, slice_get-get_or}
use Rattle.report_judge.proofs.Words.{slice_get_past, Blocked, Record, Task, Knot, Twig, IsClosed, has_outcome, KeepsOrder, is_placed, Setup, setup_of}
use Rattle.report_judge.proofs.Words.{unplaced_record, ClearAt, space_of, without_costs, IsPresent, point_at, TreeState, IsSettled, present_below, ReportLine}
use Rattle.report_judge.proofs.Words.{extent_of, lines_text, NoPath, PathOf, PathPoint, Counts, PricedPath, Sheet, head_lines, lines_of_sheet, state_of_sheet}
use Rattle.report_judge.proofs.Words.{HasForm, number_of_node_line, number_of_mark_line, KeepsNodeLaw, KeepsLaw, best_priced_path, tally_of, IsReportOfRun}
use Rattle.report_judge.proofs.Words.{IsLawful, Tally}
use Rattle.report_judge.proofs.Laws.OwnTurns.{AreTurns-own}
use Rattle.report_judge.proofs.Texts.SheetTexts.{lines_text-sheet}
use Rattle.report_judge.proofs.Laws.SheetTrees.{IsSettled-sound, KeepsOrder-sound}

-- ---- heads

-- each line of the first list is the other's at its place
abbrev AreAlike : List ReportLine → List ReportLine → Type 0
AreAlike lines others = (i : ℕ) → i < length lines → slice_get lines i ≡ slice_get others i

length-path_lines : (path : PricedPath) (tally : Tally) → length (head_lines (Some path) tally) ≡ suc (length path.points + 1)
length-path_lines path tally =
    let points : List ReportLine = map PathPoint path.points in
    omega (arith, length-append (PathOf (length path.points) path.cost ∷ points) (Counts tally ∷ []), length-map path.points PathPoint)

-- lists of one length that are alike are the same
same_lines : (lines others : List ReportLine) → length lines ≡ length others → AreAlike lines others → lines ≡ others
same_lines lines others long alike =
    ext_get_or NoPath lines others long (λ i low. by_values i low)
  where
    by_values : (i : ℕ) → i < length lines → get_or lines i NoPath ≡ get_or others i NoPath
    by_values i low =
        let one = slice_get-get_or lines i NoPath low in
        let other = slice_get-get_or others i NoPath (omega (arith, low, long)) in
        let both : Some (get_or lines i NoPath) ≡ Some (get_or others i NoPath) = sym one ∙ alike i low ∙ other in
        cc

-- a head is told apart by its first line
same_heads : (path told : Option PricedPath) (tally counts : Tally) → AreAlike (head_lines path tally) (head_lines told counts)
    → head_lines path tally ≡ head_lines told counts
same_heads None None tally counts alike = same_lines (head_lines None tally) (head_lines None counts) refl alike
same_heads None (Some told) tally counts alike = let first : Some NoPath ≡ Some (PathOf (length told.points) told.cost) = alike 0 (omega arith) in cc
same_heads (Some path) None tally counts alike =
    let low : 0 < length (head_lines (Some path) tally) = omega (arith, length-path_lines path tally) in
    let first : Some (PathOf (length path.points) path.cost) ≡ Some NoPath = alike 0 low in
    cc
same_heads (Some path) (Some told) tally counts alike =
    let low : 0 < length (head_lines (Some path) tally) = omega (arith, length-path_lines path tally) in
    let first : Some (PathOf (length path.points) path.cost) ≡ Some (PathOf (length told.points) told.cost) = alike 0 low in
    let points : length path.points ≡ length told.points = cc in
    same_lines (head_lines (Some path) tally) (head_lines (Some told) counts)
    (omega (arith, length-path_lines path tally, length-path_lines told counts, points)) alike

-- ---- runs

-- a node without its kept cost
abbrev twig_of : Knot → Twig
twig_of k = record { point = k.point; parent = k.parent }

pub length-without_costs : (knots : List (Option Knot)) → length (without_costs knots) ≡ length knots
length-without_costs knots = length-map knots (option_map twig_of)

module _
    (task : Task) (sheet : Sheet) (form : HasForm (extent_of task) sheet) (kept : (law : ℕ) → KeepsLaw task sheet law)
    (clear : ClearAt (space_of task.scene) task.scene.start) where
  abbrev run : TreeState
  run = state_of_sheet sheet

  abbrev setup : Setup
  setup = setup_of task.scene

  node_law : (n : ℕ) → IsPresent run.points n → KeepsNodeLaw setup run n
  node_law n h = (kept 2 (number_of_node_line sheet n)).node refl n h refl

  order : KeepsOrder setup run
  order = KeepsOrder-sound setup run clear form.start node_law

  settled : IsSettled run
  settled = IsSettled-sound setup run clear form.start node_law

  -- a mark without a record has no node
  placed : (k : ℕ) (o : Option Record) → slice_get sheet.records k ≡ o → is_some (point_at run.points (suc k)) ≡ has_outcome is_placed o
  placed k (Some entry) e = (kept 4 (number_of_mark_line sheet k)).presence refl k entry e refl
  placed k None e = false_from_ne_true (is_some (point_at run.points (suc k))) none
    where
      none : is_some (point_at run.points (suc k)) ≡ true → ⊥
      none h =
          let low = present_below (without_costs sheet.knots) (suc k) h in
          let below : k < length sheet.records = omega (arith, low, length-without_costs sheet.knots, form.numbers, form.all_marks) in
          let some = slice_get-get_or sheet.records k (unplaced_record 0 0 0 Blocked) below in
          cc

  closed : IsClosed setup task.marks (length task.marks) run
  closed = record {
    order = order;
    within = omega arith;
    records = record {
      recorded = λ k below. ap is_some (slice_get-get_or sheet.records k (unplaced_record 0 0 0 Blocked) (omega (arith, below, form.all_marks)));
      none_else = λ k past. slice_get_past sheet.records k (omega (arith, past, form.all_marks));
    };
    workers = λ k entry h. (form.records_fit k entry h).words.word.worker;
    turns = AreTurns-own (length task.marks) (slice_get sheet.records)
        (λ k entry h. (kept 3 (number_of_mark_line sheet k)).turn refl k entry h refl);
    lawful = λ k entry h. (kept 5 (number_of_mark_line sheet k)).lawful refl k entry h refl;
    placed = λ k. placed k (slice_get sheet.records k) refl;
  }

  head : head_lines sheet.path sheet.tally ≡ head_lines (best_priced_path task.scene (length task.marks) run) (tally_of task.scene (length task.marks) run)
  head =
      same_heads sheet.path (best_priced_path task.scene (length task.marks) run) sheet.tally (tally_of task.scene (length task.marks) run)
      (λ i low. (kept 6 (suc i)).head refl i low refl)

  pub IsReportOfRun-sheet : (report : List ℕ) → report ≡ lines_text (lines_of_sheet sheet) → IsReportOfRun task report
  IsReportOfRun-sheet report text = record {
    state = run;
    closed = closed;
    settled = settled;
    text = text ∙ lines_text-sheet task.scene (length task.marks) sheet settled form.numbers form.all_marks head;
  }

-- Bytes that break no law are the report of a run.
pub IsReportOfRun-lawful : (task : Task) (report : List ℕ) → ClearAt (space_of task.scene) task.scene.start → IsLawful task report
    → IsReportOfRun task report
IsReportOfRun-lawful task report clear lawful =
    IsReportOfRun-sheet task lawful.sheet lawful.spelled.form lawful.kept clear report lawful.spelled.text
