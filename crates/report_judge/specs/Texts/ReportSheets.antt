-- What all lines of a full report say together: the path, the counts, the nodes by number and the records by mark.
use Rattle.std.specs.Prelude.{◌≡◌, ℕ, suc, ◌+◌, ◌<◌, ◌^◌, Option, Some, None, List, [], ◌∷◌, ◌++◌, length, map, take, slice_get, slice_index_or, All}
use Rattle.report_judge.specs.Terms.{IsBounded, IsKnot, IsPresent, Knot, Point, Record, TreeState, count_by, is_some, node_count, state_of_lists}
use Rattle.std.specs.List.{range_with_len, flat_map}
use Rattle.report_judge.specs.Texts.ReportLines.{Tally, ReportLine, Extent, lines_text, FitsTally, FitsKnot, FitsEntry}
use Rattle.report_judge.specs.Texts.ReportLines.ReportLine.{NoPath, PathOf, PathPoint, Counts, NodeLine, MarkLine}

-- a path with its cost
pub record PricedPath : Type 0 where
  pub points : List Point
  pub cost : ℕ

-- what the lines of a report say
pub record Sheet : Type 0 where
  pub path : Option PricedPath
  pub tally : Tally
  pub knots : List (Option Knot)
  pub records : List Record

-- ---- its lines
-- the lines of the path
abbrev pub path_lines : Option PricedPath → List ReportLine
path_lines None = NoPath ∷ []
path_lines (Some path) = PathOf (length path.points) path.cost ∷ map PathPoint path.points

-- the lines before those of nodes: of the path, and of the counts
abbrev pub head_lines : Option PricedPath → Tally → List ReportLine
head_lines path tally = path_lines path ++ Counts tally ∷ []

-- the line of a node, if it is present
abbrev pub line_of_knot : ℕ → Option Knot → List ReportLine
line_of_knot n None = []
line_of_knot n (Some knot) = NodeLine n knot ∷ []

-- the line of a mark, if it has a record
abbrev pub line_of_record : ℕ → Option Record → List ReportLine
line_of_record k None = []
line_of_record k (Some entry) = MarkLine k entry ∷ []

-- a line for each node that is present, in rising number
abbrev pub lines_of_knots : List (Option Knot) → List ReportLine
lines_of_knots knots = flat_map (λ n. line_of_knot n (slice_index_or knots n None)) (range_with_len 0 (length knots))

-- a line for each mark, in rising number
abbrev pub lines_of_records : List Record → List ReportLine
lines_of_records records = flat_map (λ k. line_of_record k (slice_get records k)) (range_with_len 0 (length records))

-- the lines of a report: of its head, of its nodes and of its marks
abbrev pub lines_of_sheet : Sheet → List ReportLine
lines_of_sheet sheet = (head_lines sheet.path sheet.tally ++ lines_of_knots sheet.knots) ++ lines_of_records sheet.records

-- ---- its form
-- each number of a path is in its range
pub record FitsPath (path : PricedPath) : Type 0 where
  pub few : length path.points < 2 ^ 64
  pub cost : path.cost < 2 ^ 44
  pub points : All IsBounded path.points

-- the path, if there is one, fits
abbrev pub FitsOptionalPath : Option PricedPath → Type 0
FitsOptionalPath None = Unit {0}
FitsOptionalPath (Some path) = FitsPath path

-- the tree and the records that the lines tell of
abbrev pub state_of_sheet : Sheet → TreeState
state_of_sheet sheet = state_of_lists sheet.knots sheet.records

-- The form of a full report: as many node lines as its head says, the start's among them, a line for each mark, and each number in its range.
pub record HasForm (extent : Extent) (sheet : Sheet) : Type 0 where
  pub numbers : length sheet.knots ≡ suc extent.marks
  pub start : IsPresent (state_of_sheet sheet).points 0
  pub counted : node_count (state_of_sheet sheet).points ≡ sheet.tally.nodes
  pub all_marks : length sheet.records ≡ extent.marks
  pub path_fits : FitsOptionalPath sheet.path
  pub tally_fits : FitsTally extent.informed sheet.tally
  pub knots_fit : (n : ℕ) (knot : Knot) → IsKnot sheet.knots n knot → FitsKnot extent.marks n knot
  pub records_fit : (k : ℕ) (entry : Record) → slice_get sheet.records k ≡ Some entry → FitsEntry extent entry

-- the bytes of a report that says this
pub record SpellsSheet (extent : Extent) (report : List ℕ) (sheet : Sheet) : Type 0 where
  pub form : HasForm extent sheet
  pub text : report ≡ lines_text (lines_of_sheet sheet)

-- ---- where lines stand, counted from 1
-- the line of node n
abbrev pub number_of_node_line : Sheet → ℕ → ℕ
number_of_node_line sheet n = length (head_lines sheet.path sheet.tally) + suc (count_by is_some (take n sheet.knots))

-- the line of mark k
abbrev pub number_of_mark_line : Sheet → ℕ → ℕ
number_of_mark_line sheet k = length (head_lines sheet.path sheet.tally) + count_by is_some sheet.knots + suc k
