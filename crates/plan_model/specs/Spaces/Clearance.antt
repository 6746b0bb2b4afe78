-- Where the body is clear of the walls and the obstacles: at a point, and at every rational point of a segment.
use Rattle.std.specs.Prelude.{ℕ, ◌<◌, ◌≤◌, pos, ◌+ℤ◌, ◌-ℤ◌, ◌*ℤ◌, All, suc, List, length, slice_index_or, ◌≡◌, [], ◌∷◌, map}
use Rattle.plan_model.specs.Terms.{ConfigurationSpace, Point}
use Rattle.plan_model.specs.Spaces.ConfigurationSpace.{Rational, at_lattice, InRoom}
use Rattle.plan_model.specs.Spaces.Zones.{Meets}
use Rattle.plan_model.specs.Trees.NodeLists.{length_of_path}

-- the body at q lies in the room and meets no obstacle with the space's clearance; walls have none
pub record IsClear (space : ConfigurationSpace) (q : Rational) : Type 0 where
  pub in_room : InRoom space q
  pub meets_none : All (λ obstacle. ¬ Meets space.clearance space.body q obstacle) space.obstacles

-- clear at a lattice point
abbrev pub ClearAt : ConfigurationSpace → Point → Type 0
ClearAt space p = IsClear space (at_lattice p)

-- the point s / d of the way from a to b
abbrev pub on_the_way : Point → Point → ℕ → (d : ℕ) → 0 < d → Rational
on_the_way a b s d positive = record {
  x = (pos d *ℤ pos a.x) +ℤ (pos s *ℤ (pos b.x -ℤ pos a.x));
  y = (pos d *ℤ pos a.y) +ℤ (pos s *ℤ (pos b.y -ℤ pos a.y));
  over = d;
  positive = positive;
}

-- clear along the segment from a to b
abbrev pub Clear : ConfigurationSpace → Point → Point → Type 0
Clear space a b = (s d : ℕ) (positive : 0 < d) → s ≤ d → IsClear space (on_the_way a b s d positive)

-- ---- Paths of points with a clear segment between each two that follow each other.
-- point i of a path (asked only of numbers below its length)
abbrev pub path_point : List Point → ℕ → Point
path_point path i = slice_index_or path i (record { x = 0; y = 0 })

-- each edge of the path is clear
pub record IsClearPath (space : ConfigurationSpace) (path : List Point) : Type 0 where
  pub clear : (i : ℕ) → suc i < length path → Clear space (path_point path i) (path_point path (suc i))

-- ---- Choices of points of a path, which keep its two ends, and what they cost.
-- positions that rise strictly after this one, up to the last of so many
abbrev pub RiseToLast : ℕ → ℕ → List ℕ → Type 0
RiseToLast count i [] = suc i ≡ count
RiseToLast count i (j ∷ choice) = (i < j) × RiseToLast count j choice

-- A choice of positions of a path: the first one, and then positions that rise strictly, up to the last one.
abbrev pub IsChoice : List Point → List ℕ → Type 0
IsChoice path [] = ⊥
IsChoice path (i ∷ choice) = (i ≡ 0) × RiseToLast (length path) i choice

-- the points that a choice keeps of a path, in their order
abbrev pub kept_points : List Point → List ℕ → List Point
kept_points path choice = map (path_point path) choice

-- the cost of the path over the points that a choice keeps
abbrev pub cost_of_choice : List Point → List ℕ → ℕ
cost_of_choice path choice = length_of_path (kept_points path choice)
