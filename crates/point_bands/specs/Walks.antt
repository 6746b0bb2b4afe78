-- A walk over the points within a distance of a center, stretch by stretch: none of them is left out between two stretches.
use Rattle.std.specs.Prelude.{ℕ, ◌*◌, ◌≤◌, ◌<◌, Option, Some, None, List, length, slice_index_or, ◌+◌, ◌^◌, ◌/◌}
use Rattle.std.specs.Int.{abs_diff}
use Rattle.plan_model.specs.declared.geometry.Point.{Point}
use Rattle.plan_model.specs.Geometry.Plane.{squared_distance}
use Rattle.point_bands.specs.declared.bands.Numbered.{Numbered}
use Rattle.point_bands.specs.declared.bands.Stretch.{Stretch}

-- ---- Closed discs of the plane.
-- the square of the point's distance to the center is not above this one
abbrev pub IsWithin : Point → ℕ → Point → Type 0
IsWithin center square p = squared_distance p center ≤ square

-- the same of the point's column: some point of that column is within the distance
abbrev pub IsInColumns : Point → ℕ → Point → Type 0
IsInColumns center square p = abs_diff p.x center.x * abs_diff p.x center.x ≤ square

-- ---- walks
-- what stands for the point at a position past the end (definitions ask it of positions below the length alone)
abbrev pub nowhere : Numbered
nowhere = record { point = record { x = 0; y = 0 }; number = 0 }

-- the numbered point at a position
abbrev pub numbered_at : List Numbered → ℕ → Numbered
numbered_at points i = slice_index_or points i nowhere

-- no point from one position up to another, and without it, is within the distance
abbrev pub HasNoneBetween : Point → ℕ → List Numbered → ℕ → ℕ → Type 0
HasNoneBetween center square points from limit = (j : ℕ) → from ≤ j → j < limit → ¬ IsWithin center square (numbered_at points j).point

-- A stretch begins at a position or after it, has a position, ends in the list and stands in the columns of the disc; no point before it is
-- within the distance.
pub record IsStretchAfter (center : Point) (square : ℕ) (points : List Numbered) (from : ℕ) (stretch : Stretch) : Type 0 where
  pub onward : from ≤ stretch.start
  pub some : stretch.start < stretch.end
  pub inside : stretch.end ≤ length points
  pub columns : (j : ℕ) → stretch.start ≤ j → j < stretch.end → IsInColumns center square (numbered_at points j).point
  pub skipped : HasNoneBetween center square points from stretch.start

-- The next stretch from a position on, or that no point from there on is within the distance.
abbrev pub IsNextStretch : Point → ℕ → List Numbered → ℕ → Option Stretch → Type 0
IsNextStretch center square points from None = HasNoneBetween center square points from (length points)
IsNextStretch center square points from (Some stretch) = IsStretchAfter center square points from stretch

-- ---- The order of points in bands.
-- the lowest row of the band of a row, where bands are this high
abbrev pub lowest_row : ℕ → ℕ → ℕ
lowest_row height_log y = y / 2 ^ height_log * 2 ^ height_log

-- by band, and in a band by column
abbrev pub band_key : ℕ → Numbered → ℕ
band_key height_log numbered = lowest_row height_log numbered.point.y * 4294967296 + numbered.point.x

-- the point at a position stands in a column from one up to another
abbrev pub StandsBetween : ℕ → ℕ → List Numbered → ℕ → Type 0
StandsBetween left right points j = (left ≤ (numbered_at points j).point.x) × ((numbered_at points j).point.x ≤ right)
