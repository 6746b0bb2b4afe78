-- The nearest node to a point, and the nodes near one. Both look at every node.
use Rattle.std.specs.Prelude.{◌≡◌, ℕ, ◌≤◌, nat_lt, Option, Some, None, List, [], ◌∷◌, if◌then◌else◌, ◌*◌, nat_le, Bool, false, length, filter}
use Rattle.plan_model.specs.Terms.{Point, range_with_len}
use Rattle.plan_model.specs.Geometry.Plane.{squared_distance}
use Rattle.plan_model.specs.Trees.NodeLists.{point_at, point_of, IsPresent}

-- ---- The order of pairs (key, number), by which the nearest node, the best parent and the best node are chosen: the lesser key, and of equal keys
-- the lesser number.
-- a pair is not above another one
pub record IsPairNotAbove (key number other_key other : ℕ) : Type 0 where
  pub least : key ≤ other_key
  pub first : other_key ≡ key → number ≤ other

-- the pair of m is not above the pair of i
abbrev pub IsNotAbove : (ℕ → ℕ) → ℕ → ℕ → Type 0
IsNotAbove key m i = IsPairNotAbove (key m) m (key i) i

-- m has the least pair among these numbers
pub record IsFirstLeast (key : ℕ → ℕ) (among : ℕ → Type 0) (m : ℕ) : Type 0 where
  pub member : among m
  pub not_above : (i : ℕ) → among i → IsNotAbove key m i

-- of a number and perhaps another that stands after it, the one with the lesser key, the first if both are equal
abbrev pub lesser : (ℕ → ℕ) → ℕ → Option ℕ → ℕ
lesser key n None = n
lesser key n (Some m) = if nat_lt (key m) (key n) then m else n

-- the first of the numbers with the least key
abbrev pub first_least : (ℕ → ℕ) → List ℕ → Option ℕ
first_least key [] = None
first_least key (n ∷ ns) = Some (lesser key n (first_least key ns))

-- ---- nearness
-- the squared distance of a present node to q
abbrev pub distance_to : Point → List (Option Point) → ℕ → ℕ
distance_to q points i = squared_distance (point_of points i) q

-- m is the present node with the least pair of squared distance to q and number
abbrev pub IsNearest : List (Option Point) → Point → ℕ → Type 0
IsNearest points q m = IsFirstLeast (distance_to q points) (IsPresent points) m

-- a point at most r away from p
abbrev pub is_within : Point → ℕ → Option Point → Bool
is_within p r None = false
is_within p r (Some q) = nat_le (squared_distance q p) (r * r)

-- the present nodes within r of p, in rising number
abbrev pub near : List (Option Point) → Point → ℕ → List ℕ
near points p r = filter (λ i. is_within p r (point_at points i)) (range_with_len 0 (length points))
