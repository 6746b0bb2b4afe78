-- Roots and costs that compute.
use Rattle.plan_model_tests.proofs.Words.{◌≡◌, ℕ, zero, suc, ◌+◌, ◌-◌, ◌*◌, ◌/◌, Bool, true, false, Option, List, [], ◌∷◌, refl, ◌&&◌, cond, map, if◌then◌else◌}
use Rattle.plan_model_tests.proofs.Words.{nat_le, flat_map, and_parts, ltb-true, root_ceiling-from_squares, root_ceiling-zero, Goal, Point, cost_of}
use Rattle.plan_model_tests.proofs.Words.{squared_distance, advanced, steered, Twig, chain, length_of_path, points_of, sum_of, point_of, least_of}
use Rattle.plan_model_tests.proofs.Words.{points_of_goal}
use Rattle.std.proofs.lemmas.Bool.{leb-true}
use lib.Dec.{leb, ltb}
use Rattle.plan_model.specs.Geometry.Lengths.{root_ceiling}
use Rattle.plan_model.specs.Trees.BestNode.{bound_of}

-- the greatest number whose square is at most n, by digits in base 4
abbrev pub floor_root : ℕ → ℕ → ℕ
floor_root zero n = 0
floor_root (suc digits) n = let r = 2 * floor_root digits (n / 4) in cond (leb ((r + 1) * (r + 1)) n) (r + 1) r

-- r, if it is seen to be the root
abbrev pub checked_root : ℕ → ℕ → ℕ
checked_root n r = cond (leb n (r * r) && ltb ((r - 1) * (r - 1)) n) r (root_ceiling n)

abbrev pub root : ℕ → ℕ
root zero = 0
root n = let r = floor_root 32 n in checked_root n (cond (leb n (r * r)) r (r + 1))

root-checked : (n r : ℕ) (b : Bool) → (leb n (r * r) && ltb ((r - 1) * (r - 1)) n) ≡ b → root_ceiling n ≡ cond b r (root_ceiling n)
root-checked n r true e =
    let parts = and_parts (leb n (r * r)) (ltb ((r - 1) * (r - 1)) n) e in
    root_ceiling-from_squares n r (leb-true n (r * r) parts.0) (ltb-true ((r - 1) * (r - 1)) n parts.1)
root-checked n r false e = refl

pub root-is : (n : ℕ) → root_ceiling n ≡ root n
root-is zero = root_ceiling-zero
root-is (suc n) =
    let r = floor_root 32 (suc n) in
    root-checked (suc n) (cond (leb (suc n) (r * r)) r (r + 1)) _ refl

-- of an edge of 50 lattice steps
pub cost_2500 : root_ceiling 163840000 ≡ 12800
cost_2500 = root-is 163840000

abbrev pub cost : Point → Point → ℕ
cost a b = root (65536 * squared_distance a b)

pub cost-is : (a b : Point) → cost_of a b ≡ cost a b
cost-is a b = root-is (65536 * squared_distance a b)

-- where a step leads
abbrev pub steered_to : Point → Point → ℕ → Point
steered_to a b step =
    if nat_le (squared_distance a b) (step * step) then b else
    let length_up = root (squared_distance a b) in
    record { x = advanced a.x b.x step length_up; y = advanced a.y b.y step length_up }

pub steered-is : (a b : Point) (step : ℕ) → steered a b step ≡ steered_to a b step
steered-is a b step = λ i. if nat_le (squared_distance a b) (step * step) then b else
    let length_up = root-is (squared_distance a b) i in
    record { x = advanced a.x b.x step length_up; y = advanced a.y b.y step length_up }

abbrev pub bound : Point → List Goal → Point → ℕ
bound start goals p = cost start p + least_of (map (cost p) (flat_map points_of_goal goals))

pub bound-is : (start : Point) (goals : List Goal) (p : Point) → bound_of start goals p ≡ bound start goals p
unfolding bound_of
bound-is start goals p = λ i. cost-is start p i + least_of (map (λ q. cost-is p q i) (flat_map points_of_goal goals))

-- what a path costs, and a node by its chain
abbrev pub path_cost : List Point → ℕ
path_cost [] = 0
path_cost (p ∷ []) = 0
path_cost (p ∷ q ∷ path) = cost q p + path_cost (q ∷ path)

pub path_cost-is : (path : List Point) → length_of_path path ≡ path_cost path
path_cost-is [] = refl
path_cost-is (p ∷ []) = refl
path_cost-is (p ∷ q ∷ path) = λ i. cost-is q p i + path_cost-is (q ∷ path) i

abbrev pub sum : List (Option Twig) → ℕ → ℕ
sum tree n = path_cost (map (point_of (points_of tree)) (chain tree n))

pub sum-is : (tree : List (Option Twig)) (n : ℕ) → sum_of tree n ≡ sum tree n
sum-is tree n = path_cost-is (map (point_of (points_of tree)) (chain tree n))
