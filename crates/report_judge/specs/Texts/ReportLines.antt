-- The lines of a full report: what each says, its text, and the ranges of its numbers.
use Rattle.std.specs.Prelude.{ℕ, ◌<◌, ◌≤◌, ◌^◌, Bool, true, false, IsTrue, Option, Some, None, List, [], ◌∷◌, ◌++◌, length, codes, decimal, flat_map}
use Rattle.report_judge.specs.Terms.{Ending, FitsRecord, IsBounded, Knot, NewNode, NoWay, Point, Reached, Record, SameNode, SkippedBy, Steered, Task}
use Rattle.report_judge.specs.Terms.{ending_of, ending_words, line}
pub use Rattle.report_judge.specs.declared.tallies.Tally.{Tally}

-- What a line says: that there is no path, or how many points the path has and what it costs; one of these points; the counts;
-- node n; what became of mark k.
pub data ReportLine : Type 0 where
  NoPath : ReportLine
  PathOf : (points cost : ℕ) → ReportLine
  PathPoint : (p : Point) → ReportLine
  Counts : (tally : Tally) → ReportLine
  NodeLine : (n : ℕ) (knot : Knot) → ReportLine
  MarkLine : (k : ℕ) (entry : Record) → ReportLine

-- ---- texts
-- a word, a number in decimal, and a byte after it
abbrev pub field : List ℕ → ℕ → ℕ → List ℕ → List ℕ
field word n e rest = word ++ (decimal n ++ e ∷ rest)

-- the same of a point: its column, a space, and its row
abbrev pub point_field : List ℕ → Point → ℕ → List ℕ → List ℕ
point_field word p e rest = field word p.x 32 (field [] p.y e rest)

-- the front of the line of a mark: its number, its worker and its turn
abbrev pub mark_front : (mark worker turn : ℕ) → List ℕ → List ℕ
mark_front mark worker turn rest = field (codes "mark ") mark 32 (field (codes "worker ") worker 32 (field (codes "turn ") turn 32 rest))

-- the words of the count of skipped marks, if there is one
abbrev pub skipped_count : Option ℕ → List (List ℕ)
skipped_count None = []
skipped_count (Some count) = codes "skipped" ∷ decimal count ∷ []

-- the words of a line
abbrev pub line_words : ReportLine → List (List ℕ)
line_words NoPath = codes "no" ∷ codes "path" ∷ []
line_words (PathOf points cost) = codes "path" ∷ decimal points ∷ codes "cost" ∷ decimal cost ∷ []
line_words (PathPoint p) = decimal p.x ∷ decimal p.y ∷ []
line_words (Counts tally) = codes "nodes" ∷ decimal tally.nodes ∷ codes "placed" ∷ decimal tally.placed ∷ codes "same" ∷ decimal tally.same
    ∷ codes "blocked" ∷ decimal tally.blocked ∷ skipped_count tally.skipped
line_words (NodeLine n knot) = codes "node" ∷ decimal n ∷ codes "at" ∷ decimal knot.point.x ∷ decimal knot.point.y
    ∷ codes "parent" ∷ decimal knot.parent ∷ codes "cost" ∷ decimal knot.cost ∷ []
line_words (MarkLine k entry) = (codes "mark" ∷ decimal k ∷ codes "worker" ∷ decimal entry.worker ∷ codes "turn" ∷ decimal entry.turn ∷ [])
    ++ ending_words (ending_of entry)

-- how a line is spelled: its words with a space between each two, and a line feed
abbrev pub line_text : ReportLine → List ℕ
line_text said = line (line_words said)

-- lines one after another
abbrev pub lines_text : List ReportLine → List ℕ
lines_text lines = flat_map line_text lines

-- ---- ranges
-- what the form of a report depends on: how many marks there are, and whether any may be skipped
pub record Extent : Type 0 where
  pub marks : ℕ
  pub informed : Bool

-- the marks of a task may be skipped if its scene is informed
abbrev pub extent_of : Task → Extent
extent_of task = record { marks = length task.marks; informed = task.scene.informed }

-- skipped marks are counted exactly if any may be skipped
abbrev pub FitsSkipped : Bool → Option ℕ → Type 0
FitsSkipped false None = Unit {0}
FitsSkipped true (Some count) = count < 2 ^ 64
FitsSkipped informed count = ⊥

-- a count fits 64 bits
pub record FitsTally (informed : Bool) (tally : Tally) : Type 0 where
  pub nodes : tally.nodes < 2 ^ 64
  pub placed : tally.placed < 2 ^ 64
  pub same : tally.same < 2 ^ 64
  pub blocked : tally.blocked < 2 ^ 64
  pub skipped : FitsSkipped informed tally.skipped

-- a node of a run over so many marks, with its parent: coordinates of 20 bits, a cost of 44
pub record FitsKnot (marks n : ℕ) (knot : Knot) : Type 0 where
  pub number : n ≤ marks
  pub point : IsBounded knot.point
  pub parent : knot.parent ≤ marks
  pub cost : knot.cost < 2 ^ 44

-- the node that was reached, or the first parent of a new one, is among so many
abbrev pub ReachesWithin : ℕ → Reached → Type 0
ReachesWithin most (NewNode first) = first.parent ≤ most
ReachesWithin most (SameNode j) = j ≤ most
ReachesWithin most NoWay = Unit {0}

-- the nodes at which a mark ended have numbers up to that of the last mark, and a mark is skipped only if it may be
abbrev pub EndsWithin : Extent → Ending → Type 0
EndsWithin extent (Steered nearest reached) = (nearest ≤ extent.marks) × ReachesWithin extent.marks reached
EndsWithin extent (SkippedBy goal_node) = (goal_node ≤ extent.marks) × IsTrue extent.informed

-- a record of a run over so many marks: its fields fit a record's word, and the nodes that it names have numbers up to the last mark's
pub record FitsEntry (extent : Extent) (entry : Record) : Type 0 where
  pub words : FitsRecord entry
  pub ended : EndsWithin extent (ending_of entry)

-- the numbers of a line of a report are in their ranges
abbrev pub FitsLine : Extent → ReportLine → Type 0
FitsLine extent NoPath = Unit {0}
FitsLine extent (PathOf points cost) = (points < 2 ^ 64) × (cost < 2 ^ 44)
FitsLine extent (PathPoint p) = IsBounded p
FitsLine extent (Counts tally) = FitsTally extent.informed tally
FitsLine extent (NodeLine n knot) = FitsKnot extent.marks n knot
FitsLine extent (MarkLine k entry) = (k < extent.marks) × FitsEntry extent entry
