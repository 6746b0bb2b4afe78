-- Smoothed paths: of all choices of a path's points that keep its ends and leave each segment clear, the least one.
use Rattle.std.specs.Prelude.{◌≡◌, ℕ, ◌≤◌, List, [], ◌∷◌, length, Option, Some, None, ◌++◌, suc, ◌*◌, ◌-◌, ◌<◌, slice_index_or}
use Rattle.path_tools.specs.Terms.{Clear, ConfigurationSpace, IsChoice, IsClearPath, Point, Rest, Scene, TreeState, best_node, cost_of_choice, counts_line}
use Rattle.path_tools.specs.Terms.{goals_of, kept_points, length_of_path, path_line, path_point, path_to, point_lines, short_report, space_of}

-- of two lists of positions, the first comes before the other or is the same, compared from the front
abbrev pub IsNotAfter : List ℕ → List ℕ → Type 0
IsNotAfter [] others = Unit {0}
IsNotAfter (i ∷ choice) [] = ⊥
IsNotAfter (i ∷ choice) (j ∷ others) = (i ≤ j) × (i ≡ j → IsNotAfter choice others)

-- A choice is not above another one: it costs less, or as much with fewer points, or as much with as many points and it is not after it.
pub record IsChoiceNotAbove (path : List Point) (choice other : List ℕ) : Type 0 where
  pub cost : cost_of_choice path choice ≤ cost_of_choice path other
  pub points : cost_of_choice path other ≡ cost_of_choice path choice → length choice ≤ length other
  pub positions : cost_of_choice path other ≡ cost_of_choice path choice → length other ≡ length choice → IsNotAfter choice other

-- a choice of positions of a path with a clear segment between each two that follow each other
pub record IsClearChoice (space : ConfigurationSpace) (path : List Point) (choice : List ℕ) : Type 0 where
  pub chosen : IsChoice path choice
  pub clear : IsClearPath space (kept_points path choice)

-- a clear choice that is not above any other
pub record IsLeastChoice (space : ConfigurationSpace) (path : List Point) (choice : List ℕ) : Type 0 where
  pub member : IsClearChoice space path choice
  pub not_above : (other : List ℕ) → IsClearChoice space path other → IsChoiceNotAbove path choice other

-- The smoothed path: the points that the least clear choice keeps.
pub record IsSmoothed (space : ConfigurationSpace) (path smoothed : List Point) : Type 0 where
  pub choice : List ℕ
  pub least : IsLeastChoice space path choice
  pub kept : smoothed ≡ kept_points path choice

-- ---- The short report of a run with its best path smoothed.
-- the text is the short report along the smoothed path to a node
pub record ReportsSmoothed (scene : Scene) (limit : ℕ) (state : TreeState) (n : ℕ) (text : List ℕ) : Type 0 where
  pub smoothed : List Point
  pub is_smoothed : IsSmoothed (space_of scene) (path_to state n) smoothed
  pub written : text ≡ (path_line smoothed (length_of_path smoothed) ++ point_lines smoothed) ++ counts_line scene limit state

-- the same by the best node; if there is none, it is the short report
abbrev pub ReportsSmoothedBest : Scene → ℕ → TreeState → Option ℕ → List ℕ → Type 0
ReportsSmoothedBest scene limit state None text = text ≡ short_report scene limit state
ReportsSmoothedBest scene limit state (Some n) text = ReportsSmoothed scene limit state n text

-- The text is the short report of a tree with its best path smoothed.
abbrev pub IsSmoothedReport : Scene → ℕ → TreeState → List ℕ → Type 0
IsSmoothedReport scene limit state text = ReportsSmoothedBest scene limit state (best_node (goals_of scene) limit state) text

-- ---- The least ways on from a position of a path to its end, as a table keeps them.
-- a point more fits, at whatever cost of an edge
pub record HasRoom (rest : Rest) : Type 0 where
  pub cost : rest.cost < 2305843009213693952
  pub points : rest.points < 4294967295

-- positions after this one that lead to the last one, with a clear segment to each
abbrev pub IsClearRest : ConfigurationSpace → List Point → ℕ → List ℕ → Type 0
IsClearRest space path i [] = suc i ≡ length path
IsClearRest space path i (j ∷ rest) = (i < j) × Clear space (path_point path i) (path_point path j) × IsClearRest space path j rest

-- positions begin below a limit, if there are any
abbrev pub BeginsBelow : ℕ → List ℕ → Type 0
BeginsBelow limit [] = Unit {0}
BeginsBelow limit (j ∷ rest) = j < limit

-- positions begin with this one, if there are any
abbrev pub BeginsWith : ℕ → List ℕ → Type 0
BeginsWith next [] = Unit {0}
BeginsWith next (j ∷ rest) = next ≡ j

-- the least clear rest after position i of those that begin below a limit
pub record IsLeastRest (space : ConfigurationSpace) (path : List Point) (limit i : ℕ) (rest : List ℕ) : Type 0 where
  pub clear : IsClearRest space path i rest
  pub below : BeginsBelow limit rest
  pub not_above : (other : List ℕ) → IsClearRest space path i other → BeginsBelow limit other → IsChoiceNotAbove path (i ∷ rest) (i ∷ other)

-- the table's entry of position i is the least rest of those that begin below a limit
pub record IsRestBelow (space : ConfigurationSpace) (path : List Point) (limit i : ℕ) (rest : Rest) : Type 0 where
  pub positions : List ℕ
  pub least : IsLeastRest space path limit i positions
  pub next : BeginsWith rest.next positions
  pub cost : rest.cost ≡ cost_of_choice path (i ∷ positions)
  pub points : rest.points ≡ length (i ∷ positions)
  pub low : rest.cost ≤ 536870912 * (length path - suc i)
  pub few : rest.points ≤ length path - i

-- the entry of a position in a table
abbrev pub rest_at : List Rest → ℕ → Rest
rest_at rests i = slice_index_or rests i (record { cost = 0; points = 0; next = 0 })

-- from position i on, the table has the least rest of each
abbrev pub AreRestsFrom : ConfigurationSpace → List Point → ℕ → List Rest → Type 0
AreRestsFrom space path i rests =
    (length rests ≡ length path) × ((k : ℕ) → i ≤ k → k < length path → IsRestBelow space path (length path) k (rest_at rests k))
