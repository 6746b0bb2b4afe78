-- The lines of a sheet in form stand one after another where they may, and are all the report.
use Rattle.report_judge.proofs.Words.{◌≡◌, ℕ, zero, suc, ◌+◌, ◌-◌, ◌<◌, ◌≤◌, cond, List, [], ◌∷◌, ◌++◌, length, map, take, get_or, Option, Some, None, arith}
use Rattle.report_judge.proofs.Words.{refl, sym, ap, ◌∙◌, subst, append_assoc, append-nil, length-append, is_some, option_map, count_by, slice_get}
use Rattle.report_judge.proofs.Words.{slice_index_or, range_with_len, flat_map, true≢false, flat_map-append, length-map, map-append, take-append-le, take_more}
use Rattle.report_judge.proofs.Words.{take_all, sum_by_push, sum_by-take-le, slice_get_within, slice_get-get_or, take-append_seam, Point, Blocked, Record, Knot}
use Rattle.report_judge.proofs.Words.{IsBounded, unplaced_record, IsPresent, point_at, range-more, node_count-some, node_count-lists, IsKnot-at, point_at-lists}
use Rattle.report_judge.proofs.Words.{IsKnot, nodes_said, counts_place, nodes_to_come, MayFollow, MayStandNext, AreBegun, AreAll, Tally, ReportLine, Extent}
use Rattle.report_judge.proofs.Words.{FitsTally, FitsKnot, FitsEntry, FitsLine, NoPath, PathOf, PathPoint, Counts, NodeLine, MarkLine, PricedPath, Sheet}
use Rattle.report_judge.proofs.Words.{path_lines, head_lines, line_of_knot, line_of_record, lines_of_knots, lines_of_records, lines_of_sheet, FitsOptionalPath}
use Rattle.report_judge.proofs.Words.{HasForm, state_of_sheet}
use Rattle.report_judge.proofs.Texts.ListPlaces.{pushed_each, slice_get-seam}

-- ---- lists

-- a record below the length is there
record_there : (records : List Record) (k : ℕ) → k < length records → slice_get records k ≡ None → ⊥
record_there records k low none = let some = slice_get-get_or records k (unplaced_record 0 0 0 Blocked) low in cc

-- what each of the numbers below n + 1 gives is what those below n give, and what n does
pub flat_map-more : {A : Type 0} → (f : ℕ → List A) (n : ℕ) → flat_map f (range_with_len 0 (suc n)) ≡ flat_map f (range_with_len 0 n) ++ f n
flat_map-more f n =
    let next : suc n ≡ n + 1 = omega arith in
    ap (λ m. flat_map f (range_with_len 0 m)) next ∙ ap (flat_map f) (range-more n) ∙ flat_map-append f (range_with_len 0 n) (n ∷ [])
    ∙ ap (λ last. flat_map f (range_with_len 0 n) ++ last) (append-nil (f n))

-- ---- one line more

pub AreBegun-none : (extent : Extent) → AreBegun extent []
AreBegun-none extent = λ i own is. absurd (omega (arith, slice_get_within [] i own is))

pub AreBegun-push : (extent : Extent) (lines : List ReportLine) (next : ReportLine) → AreBegun extent lines → MayStandNext lines next → FitsLine extent next
    → AreBegun extent (lines ++ next ∷ [])
AreBegun-push extent lines next begun stands fits =
    pushed_each (λ i own. MayStandNext (take i (lines ++ next ∷ [])) own × FitsLine extent own) lines next
    (λ i own is.
    let before = take-append-le i lines (next ∷ []) (omega (arith, slice_get_within lines i own is)) in
    (subst (λ those. MayStandNext those own) (sym before) (begun i own is).0, (begun i own is).1))
    (subst (λ those. MayStandNext those next) (sym (take-append_seam lines (next ∷ []))) stands, fits)

-- ---- the head

module _ (path : Option PricedPath) (tally : Tally) (more : List ReportLine) where
  place_by : (o : Option PricedPath) → counts_place (head_lines o tally ++ more) ≡ length (path_lines o)
  place_by None = refl
  place_by (Some own) = ap suc (sym (length-map own.points PathPoint))

  -- the counts stand after the lines of the path
  pub counts_place-head : counts_place (head_lines path tally ++ more) ≡ length (path_lines path)
  counts_place-head = place_by path

  -- and say how many nodes are to come
  pub nodes_to_come-head : nodes_to_come (head_lines path tally ++ more) ≡ tally.nodes
  nodes_to_come-head =
      ap (λ place. nodes_said (slice_get (head_lines path tally ++ more) place)) counts_place-head
      ∙ ap (λ lines. nodes_said (slice_get lines (length (path_lines path)))) (append_assoc (path_lines path) (Counts tally ∷ []) more)
      ∙ ap nodes_said (slice_get-seam (path_lines path) (Counts tally) more)

-- the same before the lines of nodes and marks
module _ (path : Option PricedPath) (tally : Tally) (nodes more : List ReportLine) where
  pub counts_place-tree : counts_place ((head_lines path tally ++ nodes) ++ more) ≡ length (path_lines path)
  counts_place-tree = ap counts_place (append_assoc (head_lines path tally) nodes more) ∙ counts_place-head path tally (nodes ++ more)

  pub nodes_to_come-tree : nodes_to_come ((head_lines path tally ++ nodes) ++ more) ≡ tally.nodes
  nodes_to_come-tree = ap nodes_to_come (append_assoc (head_lines path tally) nodes more) ∙ nodes_to_come-head path tally (nodes ++ more)

pub length-head_lines : (path : Option PricedPath) (tally : Tally) → length (head_lines path tally) ≡ suc (length (path_lines path))
length-head_lines path tally = omega (arith, length-append (path_lines path) (Counts tally ∷ []))

-- points of the path stand after its line, as many as it says at most
pub points_begun :
    (extent : Extent) (count cost : ℕ) (done rest : List Point) → length done + length rest ≤ count
    → ((k : ℕ) (d : Point) → k < length rest → IsBounded (get_or rest k d))
    → AreBegun extent (PathOf count cost ∷ map PathPoint done) → AreBegun extent (PathOf count cost ∷ map PathPoint (done ++ rest))
points_begun extent count cost done [] long bounded begun =
    subst (λ points. AreBegun extent (PathOf count cost ∷ map PathPoint points)) (sym (append-nil done)) begun
points_begun extent count cost done (p ∷ rest) long bounded begun =
    let lines : List ReportLine = PathOf count cost ∷ map PathPoint done in
    let low : length (map PathPoint done) < count = omega (arith, length-map done PathPoint, long) in
    let stands : MayStandNext lines (PathPoint p) = (omega arith, omega (arith, low)) in
    let pushed = AreBegun-push extent lines (PathPoint p) begun stands (bounded 0 p (omega arith)) in
    let next : AreBegun extent (PathOf count cost ∷ map PathPoint (done ++ p ∷ [])) =
    subst (λ those. AreBegun extent (PathOf count cost ∷ those)) (sym (map-append PathPoint done (p ∷ []))) pushed in
    let further =
    points_begun extent count cost (done ++ p ∷ []) rest (omega (arith, long, length-append done (p ∷ [])))
    (λ k d below. bounded (suc k) d (omega (arith, below))) next in
    subst (λ points. AreBegun extent (PathOf count cost ∷ map PathPoint points)) (append_assoc done (p ∷ []) rest) further

pub path_begun : (extent : Extent) (path : Option PricedPath) → FitsOptionalPath path → AreBegun extent (path_lines path)
path_begun extent None fits = AreBegun-push extent [] NoPath (AreBegun-none extent) refl tt
path_begun extent (Some path) fits =
    points_begun extent (length path.points) path.cost [] path.points (omega arith) fits.points
    (AreBegun-push extent [] (PathOf (length path.points) path.cost) (AreBegun-none extent) refl (fits.few, fits.cost))

pub some_path_lines : (path : Option PricedPath) → 0 < length (path_lines path)
some_path_lines None = omega arith
some_path_lines (Some path) = omega arith

pub own_place : (path : Option PricedPath) → length (path_lines path) ≡ counts_place (path_lines path)
own_place None = refl
own_place (Some path) = ap suc (length-map path.points PathPoint)

pub head_begun : (extent : Extent) (path : Option PricedPath) (tally : Tally) → FitsOptionalPath path → FitsTally extent.informed tally
    → AreBegun extent (head_lines path tally)
head_begun extent path tally fits counts =
    AreBegun-push extent (path_lines path) (Counts tally) (path_begun extent path fits) (some_path_lines path, own_place path) counts

-- ---- nodes

-- a node that may follow may not be followed by itself alone: the next number may follow too, if it is not the first
MayFollow-more : (n : ℕ) (last : Option ReportLine) → 0 < n → MayFollow n last → MayFollow (suc n) last
MayFollow-more n (Some (Counts tally)) some h = absurd (omega (arith, some, h))
MayFollow-more n (Some (NodeLine m knot)) some h = omega (arith, h)
MayFollow-more n last some h = absurd h

-- the last of some lines
abbrev last_of : List ReportLine → Option ReportLine
last_of lines = slice_get lines (length lines - 1)

last_of-pushed : (lines : List ReportLine) (next : ReportLine) → last_of (lines ++ next ∷ []) ≡ Some next
last_of-pushed lines next =
    let place : length (lines ++ next ∷ []) - 1 ≡ length lines = omega (arith, length-append lines (next ∷ [])) in
    ap (slice_get (lines ++ next ∷ [])) place ∙ slice_get-seam lines next []

length-line_of_knot : (n : ℕ) (o : Option Knot) → length (line_of_knot n o) ≡ cond {A = ℕ} (is_some o) 1 0
length-line_of_knot n None = refl
length-line_of_knot n (Some knot) = refl

module _ (knots : List (Option Knot)) where
  -- the lines of the nodes below a number
  abbrev lines_below : ℕ → List ReportLine
  lines_below m = flat_map (λ n. line_of_knot n (slice_index_or knots n None)) (range_with_len 0 m)

  below-more : (m : ℕ) → lines_below (suc m) ≡ lines_below m ++ line_of_knot m (slice_index_or knots m None)
  below-more m = flat_map-more (λ n. line_of_knot n (slice_index_or knots n None)) m

  -- there are as many as nodes below the number
  count_below : (m : ℕ) → m ≤ length knots → length (lines_below m) ≡ count_by is_some (take m knots)
  count_below zero low = refl
  count_below (suc m) low =
      let next : suc m ≡ m + 1 = omega arith in
      let nodes : take (suc m) knots ≡ take m knots ++ slice_index_or knots m None ∷ [] =
      ap (λ n. take n knots) next ∙ take_more knots m None (omega (arith, low)) in
      omega (
        arith,
        ap length (below-more m),
        length-append (lines_below m) (line_of_knot m (slice_index_or knots m None)),
        length-line_of_knot m (slice_index_or knots m None),
        count_below m (omega (arith, low)),
        ap (count_by is_some) nodes,
        sum_by_push (λ (o : Option Knot). cond {A = ℕ} (is_some o) 1 0) (take m knots) (slice_index_or knots m None),
      )

  -- and as many as nodes in all
  pub length-lines_of_knots : length (lines_of_knots knots) ≡ count_by is_some knots
  length-lines_of_knots = count_below (length knots) (omega arith) ∙ ap (count_by is_some) (take_all (length knots) knots (omega arith))

-- Lines of nodes and marks that are not all the report yet: the start is there, and no more nodes than the head says.
pub record BeginsForm (extent : Extent) (sheet : Sheet) : Type 0 where
  pub start : IsPresent (state_of_sheet sheet).points 0
  pub few : count_by is_some sheet.knots ≤ sheet.tally.nodes
  pub path_fits : FitsOptionalPath sheet.path
  pub tally_fits : FitsTally extent.informed sheet.tally
  pub knots_fit : (n : ℕ) (knot : Knot) → IsKnot sheet.knots n knot → FitsKnot extent.marks n knot
  pub records_fit : (k : ℕ) (entry : Record) → slice_get sheet.records k ≡ Some entry → FitsEntry extent entry

module _ (extent : Extent) (sheet : Sheet) (form : BeginsForm extent sheet) where
  abbrev head : List ReportLine
  head = head_lines sheet.path sheet.tally

  abbrev nodes_below : ℕ → List ReportLine
  nodes_below m = lines_below sheet.knots m

  few_below : (m : ℕ) → m ≤ length sheet.knots → length (nodes_below m) ≤ sheet.tally.nodes
  few_below m low =
      omega (arith, count_below sheet.knots m low, form.few, sum_by-take-le (λ (o : Option Knot). cond {A = ℕ} (is_some o) 1 0) sheet.knots m)

  -- the first node is the start
  start_there : slice_index_or sheet.knots 0 None ≡ None → ⊥
  start_there none =
      let absent : point_at (state_of_sheet sheet).points 0 ≡ None =
      point_at-lists sheet.knots 0 ∙ ap (option_map (λ (knot : Knot). knot.point)) none in
      true≢false (sym form.start ∙ ap is_some absent)

  -- the lines up to those of the nodes below a number stand where they may, and the next number may follow
  record IsNodesBegun (m : ℕ) : Type 0 where
    begun : AreBegun extent (head ++ nodes_below m)
    last : MayFollow m (last_of (head ++ nodes_below m))

  nodes_none : IsNodesBegun 0
  nodes_none =
      let same : head ++ nodes_below 0 ≡ head = append-nil head in
      record {
        begun = subst (AreBegun extent) (sym same) (head_begun extent sheet.path sheet.tally form.path_fits form.tally_fits);
        last = subst (MayFollow 0) (sym (ap last_of same ∙ last_of-pushed (path_lines sheet.path) (Counts sheet.tally))) refl;
      }

  nodes_absent : (m : ℕ) → slice_index_or sheet.knots m None ≡ None → IsNodesBegun m → IsNodesBegun (suc m)
  nodes_absent m none before =
      let more : nodes_below (suc m) ≡ nodes_below m =
      below-more sheet.knots m ∙ ap (λ o. nodes_below m ++ line_of_knot m o) none ∙ append-nil (nodes_below m) in
      let same : head ++ nodes_below m ≡ head ++ nodes_below (suc m) = ap (λ lines. head ++ lines) (sym more) in
      record {
        begun = subst (AreBegun extent) same before.begun;
        last = subst (λ lines. MayFollow (suc m) (last_of lines)) same (MayFollow-more m (last_of (head ++ nodes_below m)) (later m none) before.last);
      }
    where
      later : (m : ℕ) → slice_index_or sheet.knots m None ≡ None → 0 < m
      later zero none = absurd (start_there none)
      later (suc m) none = omega arith

  nodes_present : (m : ℕ) (knot : Knot) → m < length sheet.knots → slice_index_or sheet.knots m None ≡ Some knot → IsNodesBegun m → IsNodesBegun (suc m)
  nodes_present m knot low some before =
      let lines : List ReportLine = head ++ nodes_below m in
      let more : nodes_below (suc m) ≡ nodes_below m ++ NodeLine m knot ∷ [] = below-more sheet.knots m ∙ ap (λ o. nodes_below m ++ line_of_knot m o) some in
      let same : lines ++ NodeLine m knot ∷ [] ≡ head ++ nodes_below (suc m) =
      append_assoc head (nodes_below m) (NodeLine m knot ∷ []) ∙ ap (λ those. head ++ those) (sym more) in
      let place = counts_place-head sheet.path sheet.tally (nodes_below m) in
      let come = nodes_to_come-head sheet.path sheet.tally (nodes_below m) in
      let long = length-append head (nodes_below m) in
      let top = length-head_lines sheet.path sheet.tally in
      let count = length-append (nodes_below m) (NodeLine m knot ∷ []) in
      let few = few_below (suc m) (omega (arith, low)) in
      let stands : MayStandNext lines (NodeLine m knot) =
      (omega (arith, place, long, top), omega (arith, place, come, long, top, few, ap length more, count), before.last) in
      record {
        begun =
            subst (AreBegun extent) same
            (AreBegun-push extent lines (NodeLine m knot) before.begun stands (form.knots_fit m knot (IsKnot-at sheet.knots m knot some)));
        last = subst (λ those. MayFollow (suc m) (last_of those)) same (subst (MayFollow (suc m)) (sym (last_of-pushed lines (NodeLine m knot))) (omega arith));
      }

  nodes_next : (m : ℕ) → m < length sheet.knots → (o : Option Knot) → slice_index_or sheet.knots m None ≡ o → IsNodesBegun m → IsNodesBegun (suc m)
  nodes_next m low None e before = nodes_absent m e before
  nodes_next m low (Some knot) e before = nodes_present m knot low e before

  nodes_begun : (m : ℕ) → m ≤ length sheet.knots → IsNodesBegun m
  nodes_begun zero low = nodes_none
  nodes_begun (suc m) low = nodes_next m (omega (arith, low)) (slice_index_or sheet.knots m None) refl (nodes_begun m (omega (arith, low)))

  -- The lines of the head and of the nodes stand where they may.
  pub AreBegun-nodes : AreBegun extent (head ++ lines_of_knots sheet.knots)
  AreBegun-nodes = (nodes_begun (length sheet.knots) (omega arith)).begun

  -- ---- marks

  -- once there are as many nodes as the head says
  module _ (full : count_by is_some sheet.knots ≡ sheet.tally.nodes) (within : length sheet.records ≤ extent.marks) where
    abbrev before_marks : List ReportLine
    before_marks = head ++ lines_of_knots sheet.knots

    abbrev marks_below : ℕ → List ReportLine
    marks_below k = flat_map (λ j. line_of_record j (slice_get sheet.records j)) (range_with_len 0 k)

    -- the lines up to those of the marks below a number stand where they may
    record IsMarksBegun (k : ℕ) : Type 0 where
      begun : AreBegun extent (before_marks ++ marks_below k)
      long : length (marks_below k) ≡ k

    long_before : (more : List ReportLine) → length (before_marks ++ more) ≡ suc (length (path_lines sheet.path)) + sheet.tally.nodes + length more
    long_before more =
        omega (
          arith,
          length-append before_marks more,
          length-append head (lines_of_knots sheet.knots),
          length-head_lines sheet.path sheet.tally,
          length-lines_of_knots sheet.knots,
          full,
        )

    pub some_nodes : 0 < sheet.tally.nodes
    some_nodes = omega (arith, full, node_count-lists sheet.knots, node_count-some (state_of_sheet sheet).points 0 form.start)

    marks_none : IsMarksBegun 0
    marks_none = record {
      begun = subst (AreBegun extent) (sym (append-nil before_marks)) AreBegun-nodes;
      long = refl;
    }

    marks_next : (k : ℕ) → k < length sheet.records → (o : Option Record) → slice_get sheet.records k ≡ o → IsMarksBegun k → IsMarksBegun (suc k)
    marks_next k low None e before = absurd (record_there sheet.records k low e)
    marks_next k low (Some entry) e before =
        let lines : List ReportLine = before_marks ++ marks_below k in
        let more : marks_below (suc k) ≡ marks_below k ++ MarkLine k entry ∷ [] =
        flat_map-more (λ j. line_of_record j (slice_get sheet.records j)) k ∙ ap (λ o. marks_below k ++ line_of_record k o) e in
        let same : lines ++ MarkLine k entry ∷ [] ≡ before_marks ++ marks_below (suc k) =
        append_assoc before_marks (marks_below k) (MarkLine k entry ∷ []) ∙ ap (λ those. before_marks ++ those) (sym more) in
        let place = counts_place-tree sheet.path sheet.tally (lines_of_knots sheet.knots) (marks_below k) in
        let come = nodes_to_come-tree sheet.path sheet.tally (lines_of_knots sheet.knots) (marks_below k) in
        let long = long_before (marks_below k) in
        let own = before.long in
        let stands : MayStandNext lines (MarkLine k entry) = (omega (arith, come, some_nodes), omega (arith, place, come, long, own)) in
        let inside : k < extent.marks = omega (arith, low, within) in
        record {
          begun = subst (AreBegun extent) same (AreBegun-push extent lines (MarkLine k entry) before.begun stands (inside, form.records_fit k entry e));
          long = omega (arith, ap length more, length-append (marks_below k) (MarkLine k entry ∷ []), own);
        }

    marks_begun : (k : ℕ) → k ≤ length sheet.records → IsMarksBegun k
    marks_begun zero low = marks_none
    marks_begun (suc k) low = marks_next k (omega (arith, low)) (slice_get sheet.records k) refl (marks_begun k (omega (arith, low)))

    all_marks_begun : IsMarksBegun (length sheet.records)
    all_marks_begun = marks_begun (length sheet.records) (omega arith)

    -- The lines of the head, the nodes and the marks so far stand where they may,
    pub AreBegun-marks : AreBegun extent (lines_of_sheet sheet)
    AreBegun-marks = all_marks_begun.begun

    -- and there is a line for each mark so far.
    pub long-marks : length (lines_of_sheet sheet) ≡ suc (length (path_lines sheet.path)) + sheet.tally.nodes + length sheet.records
    long-marks = omega (arith, long_before (lines_of_records sheet.records), all_marks_begun.long)

-- ---- all lines

module _ (extent : Extent) (sheet : Sheet) (form : HasForm extent sheet) where
  all_nodes : count_by is_some sheet.knots ≡ sheet.tally.nodes
  all_nodes = sym (node_count-lists sheet.knots) ∙ form.counted

  -- there are as many lines of nodes as the counts say
  pub length-nodes : length (lines_of_knots sheet.knots) ≡ sheet.tally.nodes
  length-nodes = length-lines_of_knots sheet.knots ∙ all_nodes

  begins : BeginsForm extent sheet
  begins = record {
    start = form.start;
    few = omega (arith, all_nodes);
    path_fits = form.path_fits;
    tally_fits = form.tally_fits;
    knots_fit = form.knots_fit;
    records_fit = form.records_fit;
  }

  all_marks : length sheet.records ≤ extent.marks
  all_marks = omega (arith, form.all_marks)

  -- The lines stand where they may,
  pub AreBegun-sheet : AreBegun extent (lines_of_sheet sheet)
  AreBegun-sheet = AreBegun-marks extent sheet begins all_nodes all_marks

  -- and are all of the report.
  pub AreAll-sheet : AreAll extent (lines_of_sheet sheet)
  AreAll-sheet =
      let place = counts_place-tree sheet.path sheet.tally (lines_of_knots sheet.knots) (lines_of_records sheet.records) in
      let come = nodes_to_come-tree sheet.path sheet.tally (lines_of_knots sheet.knots) (lines_of_records sheet.records) in
      record {
        some = omega (arith, come, some_nodes extent sheet begins all_nodes all_marks);
        long = omega (arith, long-marks extent sheet begins all_nodes all_marks, place, come, form.all_marks);
      }
