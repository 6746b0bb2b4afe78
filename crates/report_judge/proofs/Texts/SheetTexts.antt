-- The lines of a sheet are those of a run's full report, if its head is that of the run.
use Rattle.report_judge.proofs.Words.{◌≡◌, ℕ, suc, Bool, true, false, List, [], ◌∷◌, ◌++◌, length, map, Option, Some, None, refl, sym, ap, ◌∙◌, append_assoc}
use Rattle.report_judge.proofs.Words.{append-nil, is_some, option_map, slice_get, slice_index_or, range_with_len, flat_map, flat_map-append, flat_map-map}
use Rattle.report_judge.proofs.Words.{Point, Record, Scene, Knot, head_line, best_path, counts_line, no_path_line, point_lines, short_report, skipped_words}
use Rattle.report_judge.proofs.Words.{full_report, node_line_if_present, node_lines, mark_line_if_recorded, mark_lines, best_node, goals_of, point_at}
use Rattle.report_judge.proofs.Words.{TreeState, IsSettled, sum_in, kept_cost_of, state_of_lists, point_at-lists, parent_of-lists, ReportLine, line_text}
use Rattle.report_judge.proofs.Words.{lines_text, skipped_count, PathPoint, Counts, NodeLine, MarkLine, Sheet, head_lines, line_of_knot, line_of_record}
use Rattle.report_judge.proofs.Words.{lines_of_knots, lines_of_records, lines_of_sheet, state_of_sheet, path_by, best_priced_path, skipped_of, tally_of}

-- a list of lists that is mapped twice
flat_map-flat_map : {X A B : Type 0} → (f : A → List B) (g : X → List A) (xs : List X) → flat_map f (flat_map g xs) ≡ flat_map (λ x. flat_map f (g x)) xs
flat_map-flat_map f g [] = refl
flat_map-flat_map f g (x ∷ xs) = flat_map-append f (g x) (flat_map g xs) ∙ ap (λ rest. flat_map f (g x) ++ rest) (flat_map-flat_map f g xs)

-- ---- heads

-- the words of the count of skipped marks
skipped_text : (informed : Bool) (limit : ℕ) (state : TreeState)
    → skipped_count (skipped_of informed limit state) ≡ skipped_words informed limit state.record_of
skipped_text false limit state = refl
skipped_text true limit state = refl

-- the text of the counts
counts_text : (scene : Scene) (limit : ℕ) (state : TreeState) → lines_text (Counts (tally_of scene limit state) ∷ []) ≡ counts_line scene limit state
counts_text scene limit state =
    append-nil (line_text (Counts (tally_of scene limit state))) ∙ rw (skipped_text scene.informed limit state) refl

-- the text of a path and counts, by the best node
head_text : (scene : Scene) (limit : ℕ) (state : TreeState) (o : Option ℕ)
    → lines_text (head_lines (path_by state o) (tally_of scene limit state))
    ≡ (head_line state o ++ point_lines (best_path state o)) ++ counts_line scene limit state
head_text scene limit state None = ap (λ text. no_path_line ++ text) (counts_text scene limit state)
head_text scene limit state (Some n) =
    let path : List Point = best_path state (Some n) in
    let counts : List ReportLine = Counts (tally_of scene limit state) ∷ [] in
    let points = flat_map-append line_text (map PathPoint path) counts in
    let each = flat_map-map line_text PathPoint path in
    ap (λ text. head_line state (Some n) ++ text) (points ∙ ap (λ text. text ++ lines_text counts) each)
    ∙ ap (λ text. head_line state (Some n) ++ (point_lines path ++ text)) (counts_text scene limit state)
    ∙ sym (append_assoc (head_line state (Some n)) (point_lines path) (counts_line scene limit state))

pub lines_text-head : (scene : Scene) (limit : ℕ) (state : TreeState)
    → lines_text (head_lines (best_priced_path scene limit state) (tally_of scene limit state)) ≡ short_report scene limit state
lines_text-head scene limit state = head_text scene limit state (best_node (goals_of scene) limit state)

-- ---- nodes and marks

module _ (knots : List (Option Knot)) (records : List Record) (settled : IsSettled (state_of_lists knots records)) where
  abbrev run : TreeState
  run = state_of_lists knots records

  -- the point of a node of the list
  abbrev point_in : Option Knot → Option Point
  point_in o = option_map (λ (knot : Knot). knot.point) o

  -- the text of one node
  knot_text : (n : ℕ) (o : Option Knot) → slice_index_or knots n None ≡ o
      → lines_text (line_of_knot n o) ≡ node_line_if_present run n (point_at run.points n)
  knot_text n None e = sym (ap (node_line_if_present run n) (point_at-lists knots n ∙ ap point_in e))
  knot_text n (Some knot) e =
      let stands : point_at run.points n ≡ Some knot.point = point_at-lists knots n ∙ ap point_in e in
      let parent : run.parent n ≡ knot.parent = parent_of-lists knots n knot e in
      let sum : sum_in run n ≡ knot.cost = sym (settled n (ap is_some stands)) ∙ ap kept_cost_of e in
      append-nil (line_text (NodeLine n knot)) ∙ sym (ap (node_line_if_present run n) stands ∙ rw (parent, sum) refl)

  -- the text of all nodes
  pub lines_text-knots : (limit : ℕ) → length knots ≡ suc limit → lines_text (lines_of_knots knots) ≡ node_lines limit run
  lines_text-knots limit numbers =
      flat_map-flat_map line_text (λ n. line_of_knot n (slice_index_or knots n None)) (range_with_len 0 (length knots))
      ∙ (λ t. flat_map (λ n. knot_text n (slice_index_or knots n None) refl t) (range_with_len 0 (length knots)))
      ∙ ap (λ count. flat_map (λ n. node_line_if_present run n (point_at run.points n)) (range_with_len 0 count)) numbers

  -- the text of one mark
  record_text : (k : ℕ) (o : Option Record) → lines_text (line_of_record k o) ≡ mark_line_if_recorded k o
  record_text k None = refl
  record_text k (Some entry) = append-nil (line_text (MarkLine k entry))

  -- the text of all marks
  pub lines_text-records : (limit : ℕ) → length records ≡ limit → lines_text (lines_of_records records) ≡ mark_lines limit run
  lines_text-records limit all =
      flat_map-flat_map line_text (λ k. line_of_record k (slice_get records k)) (range_with_len 0 (length records))
      ∙ (λ t. flat_map (λ k. record_text k (slice_get records k) t) (range_with_len 0 (length records)))
      ∙ ap (λ count. flat_map (λ k. mark_line_if_recorded k (slice_get records k)) (range_with_len 0 count)) all

-- The text of a sheet whose head is that of its run is the run's full report.
pub lines_text-sheet :
    (scene : Scene) (limit : ℕ) (sheet : Sheet) → IsSettled (state_of_sheet sheet) → length sheet.knots ≡ suc limit → length sheet.records ≡ limit
    → head_lines sheet.path sheet.tally ≡ head_lines (best_priced_path scene limit (state_of_sheet sheet)) (tally_of scene limit (state_of_sheet sheet))
    → lines_text (lines_of_sheet sheet) ≡ full_report scene limit (state_of_sheet sheet)
lines_text-sheet scene limit sheet settled numbers all head =
    let own : List ReportLine = head_lines sheet.path sheet.tally in
    let nodes : List ReportLine = lines_of_knots sheet.knots in
    let marks : List ReportLine = lines_of_records sheet.records in
    flat_map-append line_text (own ++ nodes) marks
    ∙ ap (λ text. text ++ lines_text marks) (flat_map-append line_text own nodes)
    ∙ ap (λ text. (text ++ lines_text nodes) ++ lines_text marks) (ap lines_text head ∙ lines_text-head scene limit (state_of_sheet sheet))
    ∙ ap (λ text. (short_report scene limit (state_of_sheet sheet) ++ text) ++ lines_text marks)
    (lines_text-knots sheet.knots sheet.records settled limit numbers)
    ∙ ap (λ text. (short_report scene limit (state_of_sheet sheet) ++ node_lines limit (state_of_sheet sheet)) ++ text)
    (lines_text-records sheet.knots sheet.records settled limit all)
