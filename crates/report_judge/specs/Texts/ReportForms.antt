-- Where bytes first break the form of a full report: line by line, each against the lines before it.
use Rattle.std.specs.Prelude.{◌≡◌, ℕ, suc, ◌+◌, ◌-◌, ◌<◌, ◌≤◌, Option, Some, List, [], ◌++◌, length, take, slice_get, zero, ◌∷◌, IsSome, All, None, map}
use Rattle.std.specs.Prelude.{slice_index_or}
use Rattle.report_judge.specs.Texts.ReportLines.{ReportLine, Extent, line_text, lines_text, FitsLine, Tally, FitsKnot, FitsEntry}
use Rattle.report_judge.specs.Texts.ReportLines.ReportLine.{NoPath, PathOf, PathPoint, Counts, NodeLine, MarkLine}
use Rattle.report_judge.specs.Terms.{IsBounded, IsKnot, Knot, Point, Record}
use Rattle.report_judge.specs.Texts.ReportSheets.{lines_of_knots, lines_of_records}

-- how many points the first line says that the path has
abbrev pub points_said : Option ReportLine → ℕ
points_said (Some (PathOf points cost)) = points
points_said _ = 0

-- how many nodes a line of counts says that there are
abbrev pub nodes_said : Option ReportLine → ℕ
nodes_said (Some (Counts tally)) = tally.nodes
nodes_said _ = 0

-- the place of the line of counts, from 0, is after the first line and the points of the path
abbrev pub counts_place : List ReportLine → ℕ
counts_place lines = suc (points_said (slice_get lines 0))

-- how many node lines there are to be
abbrev pub nodes_to_come : List ReportLine → ℕ
nodes_to_come lines = nodes_said (slice_get lines (counts_place lines))

-- nodes stand in rising number from 0, after the counts
abbrev pub MayFollow : ℕ → Option ReportLine → Type 0
MayFollow n (Some (Counts tally)) = n ≡ 0
MayFollow n (Some (NodeLine m knot)) = m < n
MayFollow n _ = ⊥

-- A line may stand next after these: first whether there is a path, then its points, the counts, as many nodes as they say, which is one
-- at least, and then the marks in rising number.
abbrev pub MayStandNext : List ReportLine → ReportLine → Type 0
MayStandNext before NoPath = length before ≡ 0
MayStandNext before (PathOf points cost) = length before ≡ 0
MayStandNext before (PathPoint p) = (0 < length before) × (length before < counts_place before)
MayStandNext before (Counts tally) = (0 < length before) × (length before ≡ counts_place before)
MayStandNext before (NodeLine n knot) = (counts_place before < length before) × (length before ≤ counts_place before + nodes_to_come before)
    × MayFollow n (slice_get before (length before - 1))
MayStandNext before (MarkLine k entry) = (0 < nodes_to_come before) × (length before ≡ suc (counts_place before) + nodes_to_come before + k)

-- each line may stand where it does, with its numbers in their ranges
abbrev pub AreBegun : Extent → List ReportLine → Type 0
AreBegun extent lines = (i : ℕ) (next : ReportLine) → slice_get lines i ≡ Some next → MayStandNext (take i lines) next × FitsLine extent next

-- all lines of a report are there
pub record AreAll (extent : Extent) (lines : List ReportLine) : Type 0 where
  pub some : 0 < nodes_to_come lines
  pub long : length lines ≡ suc (counts_place lines) + nodes_to_come lines + extent.marks

-- A line, counted from 1, is the first one that breaks the form: the lines before it stand where they may, what follows them does not
-- begin with a line that may stand next, and they are not all the report.
pub record BreaksFormFirst (extent : Extent) (report : List ℕ) (line : ℕ) : Type 0 where
  pub before : List ReportLine
  pub rest : List ℕ
  pub text : report ≡ lines_text before ++ rest
  pub begun : AreBegun extent before
  pub number : line ≡ suc (length before)
  pub no_next : (next : ReportLine) (after : List ℕ) → MayStandNext before next → FitsLine extent next → ¬ (rest ≡ line_text next ++ after)
  pub not_all : ¬ (AreAll extent before × (rest ≡ []))

-- ---- The lines of one kind at the front of a text, read as far as they go.
-- Points at the front of a text, at most so many, and the rest of it; if there are fewer, no point stands next.
pub record ReadsPoints (most : ℕ) (bytes : List ℕ) (points : List Point) (rest : List ℕ) : Type 0 where
  pub text : bytes ≡ lines_text (map PathPoint points) ++ rest
  pub few : length points ≤ most
  pub fit : All IsBounded points
  pub ended : length points < most → (p : Point) (after : List ℕ) → IsBounded p → ¬ (rest ≡ line_text (PathPoint p) ++ after)

-- Node n may stand after the counts and the lines of these nodes: the start first, and then each after those of lesser numbers.
abbrev pub MayComeNext : Tally → List (Option Knot) → ℕ → Type 0
MayComeNext tally knots n = MayFollow n (slice_get (Counts tally ∷ lines_of_knots knots) (length (lines_of_knots knots)))

-- Node n is the start if no number is given away yet, and else has none of the numbers below this.
abbrev pub IsNextNode : ℕ → ℕ → Type 0
IsNextNode zero n = n ≡ 0
IsNextNode (suc m) n = m < n

-- Nodes at the front of a text, at most so many, by number, and the rest of it; if there are fewer, no line of a node may stand next.
pub record ReadsNodes (marks most : ℕ) (bytes : List ℕ) (knots : List (Option Knot)) (count : ℕ) (rest : List ℕ) : Type 0 where
  pub numbers : length knots ≡ suc marks
  pub text : bytes ≡ lines_text (lines_of_knots knots) ++ rest
  pub counted : length (lines_of_knots knots) ≡ count
  pub few : count ≤ most
  pub fit : (n : ℕ) (knot : Knot) → IsKnot knots n knot → FitsKnot marks n knot
  pub start : 0 < count → IsSome (slice_index_or knots 0 None)
  pub ended : count < most → (tally : Tally) (n : ℕ) (knot : Knot) (after : List ℕ) → MayComeNext tally knots n → FitsKnot marks n knot
      → ¬ (rest ≡ line_text (NodeLine n knot) ++ after)

-- Records at the front of a text, of the first marks, and the rest of it; if there are fewer than marks, the next mark has none.
pub record ReadsRecords (extent : Extent) (bytes : List ℕ) (records : List Record) (rest : List ℕ) : Type 0 where
  pub text : bytes ≡ lines_text (lines_of_records records) ++ rest
  pub few : length records ≤ extent.marks
  pub fit : (k : ℕ) (entry : Record) → slice_get records k ≡ Some entry → FitsEntry extent entry
  pub ended : length records < extent.marks → (entry : Record) (after : List ℕ) → FitsEntry extent entry
      → ¬ (rest ≡ line_text (MarkLine (length records) entry) ++ after)
