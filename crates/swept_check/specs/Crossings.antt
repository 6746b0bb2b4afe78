-- A segment that has a rational point in a polygon.
use Rattle.std.specs.Prelude.{ℕ, ◌*◌, ◌≤◌, ℤ, pos, ◌+ℤ◌, ◌-ℤ◌, ◌*ℤ◌, ◌≤ℤ◌, ◌<◌, List, ◌≡◌, [], length, slice_index_or}
use Rattle.swept_check.specs.declared.fractions.Fraction.{Fraction}
use Rattle.plan_model.specs.declared.geometry.Point.{Point}
use Rattle.plan_model.specs.declared.geometry.Vertex.{Vertex}
use Rattle.plan_model.specs.Spaces.Clearance.{on_the_way}
use Rattle.plan_model.specs.Spaces.Zones.{IsInside, IsZoneOf}
use Rattle.plan_model.specs.declared.configuration_spaces.ConfigurationSpace.{ConfigurationSpace}

-- ---- The part of a segment that lies in half-planes, as a range of its parameters s / d.
-- between two parameters, both included
pub record IsBetweenFractions (entry exit : Fraction) (s d : ℕ) : Type 0 where
  pub after_entry : entry.numerator * d ≤ s * entry.denominator
  pub before_exit : s * exit.denominator ≤ exit.numerator * d

-- A linear function with these values at the ends of a segment, at s / d of the way, times d.
abbrev pub value_at : ℤ → ℤ → ℕ → ℕ → ℤ
value_at from to s d = (pos d *ℤ from) +ℤ (pos s *ℤ (to -ℤ from))

-- the parameter is in the half-plane whose linear function has these values at the ends
abbrev pub IsAdmitted : ℤ → ℤ → ℕ → ℕ → Type 0
IsAdmitted from to s d = pos 0 ≤ℤ value_at from to s d

-- ---- crossings
-- the point s / d of the way from a to b lies in the polygon, or on its edge
pub record Crosses (corners : List Vertex) (a b : Point) : Type 0 where
  pub s : ℕ
  pub d : ℕ
  pub positive : 0 < d
  pub on_segment : s ≤ d
  pub inside : IsInside corners (on_the_way a b s d positive)

-- ---- The zones of a configuration space: one for each obstacle, in their order.
-- There is a zone for each obstacle, in the same place of the list.
pub record AreZonesOf (space : ConfigurationSpace) (zones : List (List Vertex)) : Type 0 where
  pub count : length zones ≡ length space.obstacles
  pub each : (i : ℕ) → i < length space.obstacles
      → IsZoneOf space.clearance space.body (slice_index_or space.obstacles i []) (slice_index_or zones i [])
