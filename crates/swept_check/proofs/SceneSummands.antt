-- The body and the obstacles of a space have zones, which are made one after another.
use Rattle.swept_check.proofs.Words.{◌≡◌, ℕ, ◌+◌, ◌<◌, true, List, [], ◌∷◌, ◌++◌, length, length-append, get_or, nat_le, arith, list_all, get_or_append_left}
use Rattle.swept_check.proofs.Words.{get_or_push, and_parts, ConfigurationSpace, Vertex, is_corner_between, is_obstacle, are_obstacles}
use Rattle.swept_check.proofs.Words.{LEAST_SUMMAND_COORDINATE, MOST_OBSTACLES, MOST_SUMMAND_COORDINATE, IsZoneOf, corners-summands, true_at}
use borrow.Author.Count.{below_more}

pub obstacle_within : (version : ℕ) (obstacles : List (List Vertex)) (i : ℕ) → are_obstacles version obstacles ≡ true → i < length obstacles
    → list_all (is_corner_between LEAST_SUMMAND_COORDINATE MOST_SUMMAND_COORDINATE) (get_or obstacles i []) ≡ true
obstacle_within version obstacles i h l =
    let all = and_parts (nat_le (length obstacles) MOST_OBSTACLES) (list_all (is_obstacle version) obstacles) h in
    corners-summands version (get_or obstacles i []) (true_at (is_obstacle version) obstacles i [] all.1 l)

-- the zones of the first obstacles
pub record AreFirstZones (space : ConfigurationSpace) (zones : List (List Vertex)) (n : ℕ) : Type 0 where
  pub count : length zones ≡ n
  pub each : (i : ℕ) → i < n → IsZoneOf space.clearance space.body (get_or space.obstacles i []) (get_or zones i [])

pub AreFirstZones-more : (space : ConfigurationSpace) (zones now : List (List Vertex)) (n : ℕ) (zone : List Vertex) → AreFirstZones space zones n
    → now ≡ zones ++ zone ∷ [] → IsZoneOf space.clearance space.body (get_or space.obstacles n []) zone → AreFirstZones space now (n + 1)
AreFirstZones-more space zones now n zone h is new =
    let P : ℕ → Type 0 = λ i. IsZoneOf space.clearance space.body (get_or space.obstacles i []) (get_or now i []) in
    let count = h.count in
    let old : (i : ℕ) → i < n → P i = λ i l.
    (let same : get_or now i [] ≡ get_or zones i [] = rw is (get_or_append_left zones (zone ∷ []) [] i (omega arith)) in rw same (h.each i l)) in
    let last : get_or now n [] ≡ zone = rw is (get_or_push zones zone [] n count) in
    record { count = rw is (omega (arith, length-append zones (zone ∷ []))); each = below_more P n old (rw last new) }
