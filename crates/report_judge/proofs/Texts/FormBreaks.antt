-- Where lines that were read break the form, and that they have it if they break it nowhere.
use Rattle.report_judge.proofs.Words.{◌≡◌, ℕ, zero, suc, ◌+◌, ◌-◌, ◌<◌, ◌≤◌, ◌^◌, List, [], ◌∷◌, ◌++◌, length, map, Option, Some, None, arith, refl, sym, ap}
use Rattle.report_judge.proofs.Words.{◌∙◌, subst, inl, inr, append_assoc, append-nil, length-append, ◌≢◌, ◌⊎◌, IsSome, is_some, count_by, slice_get}
use Rattle.report_judge.proofs.Words.{slice_index_or, flat_map-append, length-map, slice_get_past, slice_get_within, Point, Record, Knot, IsPresent}
use Rattle.report_judge.proofs.Words.{node_count-lists, ReadsPoints, ReadsNodes, ReadsRecords, nodes_said, counts_place, nodes_to_come, MayFollow, MayStandNext}
use Rattle.report_judge.proofs.Words.{AreBegun, BreaksFormFirst, ReportLine, Extent, line_text, lines_text, FitsTally, FitsEntry, FitsLine, NoPath, PathOf}
use Rattle.report_judge.proofs.Words.{PathPoint, Counts, NodeLine, MarkLine, PricedPath, Sheet, path_lines, head_lines, lines_of_knots, lines_of_records}
use Rattle.report_judge.proofs.Words.{lines_of_sheet, FitsOptionalPath, SpellsSheet, state_of_sheet, Tally}
use Rattle.report_judge.proofs.Texts.ListPlaces.{slice_get-right}
use Rattle.report_judge.proofs.Laws.ListedNodes.{present-listed}
use Rattle.report_judge.proofs.Texts.SheetLines.{lines_few}
use Rattle.report_judge.proofs.Texts.SheetForms.{AreBegun-none, AreBegun-push, AreBegun-nodes, AreBegun-marks, BeginsForm, points_begun, path_begun, head_begun}
use Rattle.report_judge.proofs.Texts.SheetForms.{own_place, some_path_lines, length-head_lines, length-lines_of_knots, counts_place-head, nodes_to_come-head}
use Rattle.report_judge.proofs.Texts.SheetForms.{counts_place-tree, nodes_to_come-tree, long-marks}

-- a text that begins with some lines, and goes on with others, begins with both
joined : (text x y : List ℕ) (lines others : List ReportLine) → text ≡ lines_text lines ++ x → x ≡ lines_text others ++ y
    → text ≡ lines_text (lines ++ others) ++ y
joined text x y lines others is goes =
    is ∙ ap (λ r. lines_text lines ++ r) goes
    ∙ sym (append_assoc (lines_text lines) (lines_text others) y)
    ∙ ap (λ r. r ++ y) (sym (flat_map-append line_text lines others))

-- ---- the path

-- a text that begins with no first line breaks the form there
pub breaks_first : (extent : Extent) (report : List ℕ) → ((rest : List ℕ) → report ≡ line_text NoPath ++ rest → ⊥)
    → ((points cost : ℕ) (rest : List ℕ) → points < 2 ^ 64 → cost < 2 ^ 44 → report ≡ line_text (PathOf points cost) ++ rest → ⊥)
    → BreaksFormFirst extent report 1
breaks_first extent report no_path no_cost = record {
  before = [];
  rest = report;
  text = refl;
  begun = AreBegun-none extent;
  number = refl;
  no_next = λ next after stands fits e. by_line next after stands fits e;
  not_all = λ both. omega (arith, both.0.some);
}
  where
    by_line : (next : ReportLine) (after : List ℕ) → MayStandNext [] next → FitsLine extent next → report ≡ line_text next ++ after → ⊥
    by_line NoPath after stands fits e = no_path after e
    by_line (PathOf points cost) after stands fits e = no_cost points cost after fits.0 fits.1 e
    by_line next after stands fits e = omega (arith, stands.0)

module _ (extent : Extent) (report text : List ℕ) (count cost : ℕ) (is : report ≡ line_text (PathOf count cost) ++ text) (high : cost < 2 ^ 44) where
  -- a path with too few points breaks the form at the line after them
  pub breaks_points : count < 2 ^ 64 → (points : List Point) (rest : List ℕ) → ReadsPoints count text points rest → length points < count
      → BreaksFormFirst extent report (length points + 2)
  breaks_points fits_count points rest read low = record {
    before = before;
    rest = rest;
    text = is ∙ ap (λ r. line_text (PathOf count cost) ++ r) read.text
        ∙ sym (append_assoc (line_text (PathOf count cost)) (lines_text (map PathPoint points)) rest);
    begun = points_begun extent count cost [] points (omega (arith, low)) read.fit
        (AreBegun-push extent [] (PathOf count cost) (AreBegun-none extent) refl (fits_count, high));
    number = omega (arith, long);
    no_next = λ next after stands fits e. by_line next after stands fits e;
    not_all = λ both. omega (arith, both.0.some, come);
  }
    where
      before : List ReportLine
      before = PathOf count cost ∷ map PathPoint points

      long : length before ≡ suc (length points)
      long = omega (arith, length-map points PathPoint)

      come : nodes_to_come before ≡ 0
      come = ap nodes_said (slice_get_past before (suc count) (omega (arith, long, low)))

      by_line : (next : ReportLine) (after : List ℕ) → MayStandNext before next → FitsLine extent next → rest ≡ line_text next ++ after → ⊥
      by_line (PathPoint p) after stands fits e = read.ended low p after fits e
      by_line next after stands fits e = omega (arith, long, low, come)

-- ---- the counts

-- a text without counts breaks the form after its path
pub breaks_counts : (extent : Extent) (report : List ℕ) (path : Option PricedPath) (rest : List ℕ) → FitsOptionalPath path
    → report ≡ lines_text (path_lines path) ++ rest
    → ((tally : Tally) (after : List ℕ) → FitsTally extent.informed tally → rest ≡ line_text (Counts tally) ++ after → ⊥)
    → BreaksFormFirst extent report (length (path_lines path) + 1)
breaks_counts extent report path rest fits is none = record {
  before = path_lines path;
  rest = rest;
  text = is;
  begun = path_begun extent path fits;
  number = omega arith;
  no_next = λ next after stands fits e. by_line next after stands fits e;
  not_all = λ both. omega (arith, both.0.some, come);
}
  where
    place : length (path_lines path) ≡ counts_place (path_lines path)
    place = own_place path

    come : nodes_to_come (path_lines path) ≡ 0
    come = ap nodes_said (slice_get_past (path_lines path) (counts_place (path_lines path)) (omega (arith, place)))

    by_line : (next : ReportLine) (after : List ℕ) → MayStandNext (path_lines path) next → FitsLine extent next → rest ≡ line_text next ++ after → ⊥
    by_line (Counts tally) after stands fits e = none tally after fits e
    by_line next after stands fits e = omega (arith, some_path_lines path, place, come)

-- ---- nodes and marks

-- A text that begins with a path and counts, and then with nodes.
pub record ReadsTree (extent : Extent) (report : List ℕ) (path : Option PricedPath) (tally : Tally) (knots : List (Option Knot)) (count : ℕ)
    (rest : List ℕ) : Type 0 where
  pub front : List ℕ
  pub middle : List ℕ
  pub path_fits : FitsOptionalPath path
  pub path_is : report ≡ lines_text (path_lines path) ++ front
  pub tally_fits : FitsTally extent.informed tally
  pub tally_is : front ≡ line_text (Counts tally) ++ middle
  pub nodes : ReadsNodes extent.marks tally.nodes middle knots count rest

module _
    {extent : Extent} {report : List ℕ} {path : Option PricedPath} {tally : Tally} {knots : List (Option Knot)} {count : ℕ} {rest : List ℕ}
    (read : ReadsTree extent report path tally knots count rest) where
  abbrev lines : List ReportLine
  lines = lines_of_knots knots

  abbrev before : List ReportLine
  before = head_lines path tally ++ lines

  head_text : report ≡ lines_text (head_lines path tally) ++ read.middle
  head_text =
      joined report read.front read.middle (path_lines path) (Counts tally ∷ []) read.path_is
      (read.tally_is ∙ ap (λ r. r ++ read.middle) (sym (append-nil (line_text (Counts tally)))))

  tree_text : report ≡ lines_text before ++ rest
  tree_text = joined report read.middle rest (head_lines path tally) lines head_text read.nodes.text

  begins : 0 < count → (records : List Record) → ((k : ℕ) (entry : Record) → slice_get records k ≡ Some entry → FitsEntry extent entry)
      → BeginsForm extent (record { path = path; tally = tally; knots = knots; records = records })
  begins some records fit = record {
    start = by_start (slice_index_or knots 0 None) refl (read.nodes.start some);
    few = omega (arith, length-lines_of_knots knots, read.nodes.counted, read.nodes.few);
    path_fits = read.path_fits;
    tally_fits = read.tally_fits;
    knots_fit = read.nodes.fit;
    records_fit = fit;
  }
    where
      by_start : (o : Option Knot) → slice_index_or knots 0 None ≡ o → IsSome o
          → IsPresent (state_of_sheet (record { path = path; tally = tally; knots = knots; records = records })).points 0
      by_start None e there = absurd (cc)
      by_start (Some knot) e there = present-listed knots records 0 knot e

  tree_begun : AreBegun extent before
  tree_begun = by_count count read.nodes.counted (begins_if)
    where
      begins_if : 0 < count → BeginsForm extent (record { path = path; tally = tally; knots = knots; records = [] })
      begins_if some = begins some [] (λ k entry is. absurd (omega (arith, slice_get_within [] k entry is)))

      nothing : (those : List ReportLine) → length those ≡ 0 → AreBegun extent (head_lines path tally ++ those)
      nothing [] none = subst (AreBegun extent) (sym (append-nil (head_lines path tally))) (head_begun extent path tally read.path_fits read.tally_fits)
      nothing (own ∷ those) none = absurd (omega (arith, none))

      by_count : (n : ℕ) → length lines ≡ n → (0 < n → BeginsForm extent (record { path = path; tally = tally; knots = knots; records = [] }))
          → AreBegun extent before
      by_count zero none form = nothing lines none
      by_count (suc n) some form = AreBegun-nodes extent (record { path = path; tally = tally; knots = knots; records = [] }) (form (omega arith))

  long : length before ≡ suc (length (path_lines path)) + count
  long = omega (arith, length-append (head_lines path tally) lines, length-head_lines path tally, read.nodes.counted)

  -- there are no more lines than bytes
  pub tree_lines_few : suc (length (path_lines path)) + count ≤ length report
  tree_lines_few = omega (arith, long, lines_few before, ap length tree_text, length-append (lines_text before) rest)

  place : counts_place before ≡ length (path_lines path)
  place = counts_place-head path tally lines

  come : nodes_to_come before ≡ tally.nodes
  come = nodes_to_come-head path tally lines

  last : slice_get before (length before - 1) ≡ slice_get (Counts tally ∷ lines) (length lines)
  last =
      let at : length before - 1 ≡ length (path_lines path) + length lines = omega (arith, long, read.nodes.counted) in
      (λ i. slice_get (append_assoc (path_lines path) (Counts tally ∷ []) lines i) (at i))
      ∙ slice_get-right (path_lines path) (Counts tally ∷ lines) (length lines)

  -- a text with too few nodes, or with none, breaks the form at the line after them
  pub breaks_nodes : (count ≡ 0) ⊎ (count < tally.nodes) → BreaksFormFirst extent report (length (path_lines path) + 1 + count + 1)
  breaks_nodes few = record {
    before = before;
    rest = rest;
    text = tree_text;
    begun = tree_begun;
    number = omega (arith, long);
    no_next = λ next after stands fits e. by_line next after stands fits e;
    not_all = λ both. omega (arith, short (omega (arith, both.0.some, come)), both.0.long, long, place, come);
  }
    where
      short : 0 < tally.nodes → count < tally.nodes
      short some =
          elim few [
            | inl none ↦ omega (arith, none, some)
            | inr less ↦ less
          ]

      by_line : (next : ReportLine) (after : List ℕ) → MayStandNext before next → FitsLine extent next → rest ≡ line_text next ++ after → ⊥
      by_line (NodeLine n knot) after stands fits e =
          read.nodes.ended (omega (arith, stands.1, long, place, come)) tally n knot after (subst (MayFollow n) last stands.2) fits e
      by_line (MarkLine k entry) after stands fits e = omega (arith, short (omega (arith, stands.0, come)), stands.1, long, place, come)
      by_line next after stands fits e = omega (arith, long, place)

  module _ {records : List Record} {tail : List ℕ} (all : count ≡ tally.nodes) (some : 0 < count) (told : ReadsRecords extent rest records tail) where
    abbrev sheet : Sheet
    sheet = record { path = path; tally = tally; knots = knots; records = records }

    form : BeginsForm extent sheet
    form = begins some records told.fit

    full : count_by is_some knots ≡ tally.nodes
    full = omega (arith, length-lines_of_knots knots, read.nodes.counted, all)

    sheet_text : report ≡ lines_text (lines_of_sheet sheet) ++ tail
    sheet_text = joined report rest tail before (lines_of_records records) tree_text told.text

    -- there are no more lines than bytes
    pub all_lines_few : suc (length (path_lines path)) + count + length records ≤ length report
    all_lines_few =
        omega (
          arith,
          long-marks extent sheet form full told.few,
          lines_few (lines_of_sheet sheet),
          ap length sheet_text,
          length-append (lines_text (lines_of_sheet sheet)) tail,
          all,
        )

    -- a text with too few marks, or with more lines, breaks the form at the line after the marks
    pub breaks_marks : (length records < extent.marks) ⊎ (tail ≢ [])
        → BreaksFormFirst extent report (length (path_lines path) + 1 + count + length records + 1)
    breaks_marks lacking = record {
      before = lines_of_sheet sheet;
      rest = tail;
      text = sheet_text;
      begun = AreBegun-marks extent sheet form full told.few;
      number = omega (arith, long_all, all);
      no_next = λ next after stands fits e. by_line next after stands fits e;
      not_all = λ both.
          elim lacking [
            | inl less ↦ omega (arith, less, both.0.long, long_all, place_all, come_all)
            | inr more ↦ more both.1
          ];
    }
      where
        long_all : length (lines_of_sheet sheet) ≡ suc (length (path_lines path)) + tally.nodes + length records
        long_all = long-marks extent sheet form full told.few

        place_all : counts_place (lines_of_sheet sheet) ≡ length (path_lines path)
        place_all = counts_place-tree path tally lines (lines_of_records records)

        come_all : nodes_to_come (lines_of_sheet sheet) ≡ tally.nodes
        come_all = nodes_to_come-tree path tally lines (lines_of_records records)

        by_line : (next : ReportLine) (after : List ℕ) → MayStandNext (lines_of_sheet sheet) next → FitsLine extent next
            → tail ≡ line_text next ++ after → ⊥
        by_line (MarkLine k entry) after stands fits e =
            let own : k ≡ length records = omega (arith, stands.1, long_all, place_all, come_all) in
            told.ended (omega (arith, fits.0, own)) entry after fits.1 (e ∙ ap (λ n. line_text (MarkLine n entry) ++ after) own)
        by_line next after stands fits e = omega (arith, long_all, place_all, come_all)

    -- with a line for each mark, and nothing after them, the text spells a sheet in form
    pub spells_sheet : length records ≡ extent.marks → tail ≡ [] → SpellsSheet extent report sheet
    spells_sheet each ends = record {
      form = record {
        numbers = read.nodes.numbers;
        start = form.start;
        counted = node_count-lists knots ∙ full;
        all_marks = each;
        path_fits = read.path_fits;
        tally_fits = read.tally_fits;
        knots_fit = read.nodes.fit;
        records_fit = told.fit;
      };
      text = sheet_text ∙ ap (λ r. lines_text (lines_of_sheet sheet) ++ r) ends ∙ append-nil (lines_text (lines_of_sheet sheet));
    }
