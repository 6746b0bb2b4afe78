-- The nearest of the nodes near a point is the nearest of all, and a mark with near nodes is steered to.
use Rattle.seq_planner.proofs.Words.{◌≡◌, ℕ, ◌*◌, ◌<◌, ◌≤◌, List, length, get_or, Bool, true, Option, Some, None, arith, refl, ap, ◌∙◌, inl, inr, Contains}
use Rattle.seq_planner.proofs.Words.{range_with_len, IsStrictlyIncreasing, cases_lt, le-leb, leb-true, All-contains, All-get_or, filter_passes}
use Rattle.seq_planner.proofs.Words.{IsStrictlyIncreasing-filter, squared_distance, steered, Setup, near_new, IsFirstLeast, distance_to, IsNearest, is_within}
use Rattle.seq_planner.proofs.Words.{near, point_at, StandsAt, IsPresent, point_of, Point, near-present, IsNotAbove-lesser, Contains-near, IsReachable}
use Rattle.seq_planner.proofs.Words.{near_new-reachable, point_of-stands, StandsAt-present, steered-near}
use Rattle.seq_planner.proofs.PresentNumbers.{IsStrictlyIncreasing-range_with_len}

-- near nodes are in rising number
pub near-rising : (points : List (Option Point)) (p : Point) (r : ℕ) → IsStrictlyIncreasing (near points p r)
near-rising points p r =
    IsStrictlyIncreasing-filter (λ i. is_within p r (point_at points i)) (range_with_len 0 (length points))
    (IsStrictlyIncreasing-range_with_len 0 (length points))

-- a near node is within the radius
near-short : (points : List (Option Point)) (p : Point) (r n : ℕ) → Contains (near points p r) n → distance_to p points n ≤ r * r
near-short points p r n own =
    let test : ℕ → Bool = λ i. is_within p r (point_at points i) in
    by_point (point_at points n) refl
    (All-contains (λ i. test i ≡ true) (near points p r) n (filter_passes test (range_with_len 0 (length points))) own)
  where
    by_point : (o : Option Point) → point_at points n ≡ o → is_within p r o ≡ true → distance_to p points n ≤ r * r
    by_point None e h = cc
    by_point (Some q) e h = omega (arith, leb-true (squared_distance q p) (r * r) h, ap (λ a. squared_distance a p) (point_of-stands points n q e))

pub IsNearest-near :
    (points : List (Option Point)) (p : Point) (r m : ℕ) → IsFirstLeast (distance_to p points) (Contains (near points p r)) m → IsNearest points p m
IsNearest-near points p r m h = record {
  member = All-contains (IsPresent points) (near points p r) m (near-present points p r) h.member;
  not_above = λ n own. (
      let stands : StandsAt points n (point_of points n) = StandsAt-present points n own in
      elim (cases_lt (r * r) (distance_to p points n)) [
        | inl far ↦ IsNotAbove-lesser (distance_to p points) m n (omega (arith, far, near-short points p r m h.member))
        | inr close ↦ h.not_above n (Contains-near points p r n (ap (is_within p r) stands ∙ le-leb (distance_to p points n) (r * r) close))
      ]);
}

-- no radius is longer than the step, so the nearest node steers to a mark with near nodes itself
pub steered-beside :
    (setup : Setup) (points : List (Option Point)) (mark : Point) (m : ℕ) → IsNearest points mark m → 0 < length (near_new setup points mark)
    → steered (point_of points m) mark setup.step ≡ mark
steered-beside setup points mark m h some =
    let ns : List ℕ = near_new setup points mark in
    let reach = All-get_or (IsReachable points mark setup.step) ns 0 0 some (near_new-reachable setup points mark) in
    steered-near (point_of points m) mark setup.step (omega (arith, (h.not_above (get_or ns 0 0) reach.present).least, reach.short))
