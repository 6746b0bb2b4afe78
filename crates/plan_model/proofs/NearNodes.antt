-- Near nodes and candidates for a parent: all are present, and an edge from them is no longer than the step.
use Rattle.plan_model.proofs.Words.{◌≡◌, ℕ, zero, suc, ◌-◌, ◌*◌, ◌^◌, ◌<◌, ◌≤◌, Bool, true, false, cond, leb, List, [], ◌∷◌, length, Option, Some, None, get_or}
use Rattle.plan_model.proofs.Words.{arith, refl, sym, ap, ◌∙◌, subst, All, Contains, IsTrue, range_with_len, abs_diff, leb-true, mul-le, All-weaker, All-cons}
use Rattle.plan_model.proofs.Words.{All-contains, filter_passes, length-range_with_len, get_or-range_with_len, Point, squared_distance, is_within, near}
use Rattle.plan_model.proofs.Words.{point_at, IsPresent, point_of, node_count, class_of, radius_of, Setup, near_new, IsCandidate, SteersTo}
use Rattle.std.specs.Prelude.{filter}
use Rattle.plan_model.proofs.DistinctPoints.{within_present, IsPresent-below}
use Rattle.plan_model.proofs.NewNodes.{IsPresent-stands, point_of-stands}
use Rattle.plan_model.proofs.RadiusLaws.{greatest-le}
use Rattle.plan_model.proofs.SteeringLaws.{IsStep-steered}

-- the distance is the same in both directions
square_back : (a b : ℕ) → abs_diff a b * abs_diff a b ≡ abs_diff b a * abs_diff b a
square_back a b = let e : abs_diff a b ≡ abs_diff b a = omega arith in ap (λ (g : ℕ). g * g) e

pub squared_distance-swap : (a b : Point) → squared_distance a b ≡ squared_distance b a
squared_distance-swap a b = omega (arith, square_back a.x b.x, square_back a.y b.y)

-- node i is present, and at most a step away from p
pub record IsReachable (points : List (Option Point)) (p : Point) (step : ℕ) (i : ℕ) : Type 0 where
  pub present : IsPresent points i
  pub short : squared_distance (point_of points i) p ≤ step * step

-- what is within a radius of at most a step is reachable
within_reachable :
    (points : List (Option Point)) (p : Point) (r step i : ℕ) (o : Option Point) → r ≤ step → point_at points i ≡ o → is_within p r o ≡ true
    → IsReachable points p step i
within_reachable points p r step i None low e h = cc
within_reachable points p r step i (Some q) low e h =
    let close : squared_distance q p ≤ r * r = leb-true (squared_distance q p) (r * r) h in
    let here = ap (λ a. squared_distance a p) (point_of-stands points i q e) in
    record {
      present = IsPresent-stands points i q e;
      short = omega (arith, close, here, mul-le r r step step low low);
    }

-- the radius is at most the step
radius_of-le : (step gamma n : ℕ) → radius_of step gamma n ≤ step
radius_of-le step gamma n = greatest-le (λ r. leb (r * r * 2 ^ (class_of n - 1)) (gamma * gamma * class_of n)) step

-- the near nodes of a new node are reachable
pub near_new-reachable : (setup : Setup) (points : List (Option Point)) (p : Point) → All (IsReachable points p setup.step) (near_new setup points p)
near_new-reachable setup points p =
    let r : ℕ = radius_of setup.step setup.gamma (node_count points) in
    let passes : ℕ → Bool = λ i. is_within p r (point_at points i) in
    All-weaker (λ i. passes i ≡ true) (IsReachable points p setup.step)
    (λ i h. within_reachable points p r setup.step i (point_at points i) (radius_of-le setup.step setup.gamma (node_count points)) refl h)
    (near points p r) (filter_passes passes (range_with_len 0 (length points)))

-- so is the nearest node from where it steers to
pub nearest-reachable :
    (setup : Setup) (points : List (Option Point)) (mark : Point) (m : ℕ) (p : Point) → SteersTo setup points mark m p
    → IsReachable points p setup.step m
nearest-reachable setup points mark m p h = record {
  present = h.nearest.member;
  short =
      subst (λ q. squared_distance (point_of points m) q ≤ setup.step * setup.step) (sym h.reached)
      (IsStep-steered (point_of points m) mark setup.step).short;
}

-- and each candidate for the parent
pub candidate-reachable :
    (setup : Setup) (points : List (Option Point)) (mark : Point) (m : ℕ) (p : Point) (i : ℕ) → SteersTo setup points mark m p
    → IsCandidate setup points m p i → IsReachable points p setup.step i
candidate-reachable setup points mark m p i steers h =
    let P : ℕ → Type 0 = IsReachable points p setup.step in
    let all = All-cons P m (near_new setup points p) (nearest-reachable setup points mark m p steers) (near_new-reachable setup points p) in
    All-contains P (m ∷ near_new setup points p) i all h.among

-- ---- all of them

-- a number that passes a test is kept with those that do
pub Contains-filter : (p : ℕ → Bool) (ns : List ℕ) (n : ℕ) → p n ≡ true → Contains ns n → Contains (filter p ns) n
Contains-filter p [] n e (k, l, is) = absurd (omega arith)
Contains-filter p (m ∷ ns) n e (zero, l, is) =
    let passes : p m ≡ true = ap p is ∙ e in
    let P : List ℕ → Type 0 = λ ms. Contains ms n in
    subst P (sym (ap (λ b. cond b (m ∷ filter p ns) (filter p ns)) passes)) (0, omega arith, is)
Contains-filter p (m ∷ ns) n e (suc k, l, is) = by_test (p m) (Contains-filter p ns n e (k, omega (arith, l), is))
  where
    by_test : (b : Bool) → Contains (filter p ns) n → Contains (cond b (m ∷ filter p ns) (filter p ns)) n
    by_test true (j, below, same) = (suc j, omega (arith, below), same)
    by_test false h = h

-- each node within the radius is near
pub Contains-near : (points : List (Option Point)) (p : Point) (r i : ℕ) → IsTrue (is_within p r (point_at points i)) → Contains (near points p r) i
Contains-near points p r i h =
    let below : i < length points = IsPresent-below points i (within_present p r (point_at points i) h) in
    let itself : get_or (range_with_len 0 (length points)) i i ≡ i = omega (arith, get_or-range_with_len 0 (length points) i i below) in
    Contains-filter (λ n. is_within p r (point_at points n)) (range_with_len 0 (length points)) i h
    (i, omega (arith, below, length-range_with_len 0 (length points)), itself)
