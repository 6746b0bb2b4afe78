-- Scans over the nodes that are present, index after index: for the nearest to a mark, and for those near a point.
use Rattle.seq_planner.proofs.Words.{◌≡◌, ℕ, ◌+◌, ◌*◌, ◌<◌, ◌≤◌, leb, Bool, true, false, cond, List, [], ◌∷◌, ◌++◌, length, get_or, take, Option, Some, zero}
use Rattle.seq_planner.proofs.Words.{suc, arith, refl, sym, ap, ◌∙◌, subst, is_some, filter, All, Contains, range_with_len, IsStrictlyIncreasing, le-leb}
use Rattle.seq_planner.proofs.Words.{lt-leb, append-nil, get_or-map, get_or_read, take_all, All-contains, All-nil, All-get_or, filter_more}
use Rattle.seq_planner.proofs.Words.{length-range_with_len, get_or-range_with_len, squared_distance, IsFirstLeast, distance_to, IsNearest, is_within, near}
use Rattle.seq_planner.proofs.Words.{point_at, StandsAt, IsPresent, point_of, IsFree, Point, IsPresent-below, near-present, within_present, is_near_free}
use Rattle.seq_planner.proofs.Words.{filter-none, IsFirstLeast-among, Contains-filter, point_of-stands, StandsAt-present, present_numbers, ArePlaced}
use Rattle.seq_planner.proofs.Words.{listed_near, PlacedPoints}
use Rattle.seq_planner.proofs.LeastIndices.{IsLeastIndex, IsFirstLeast-index, IsFirstLeast-listed}
use Rattle.seq_planner.proofs.PresentNumbers.{ArePlaced-numbered, present_numbers-present, present_numbers-rising}

-- ---- slots

-- the node at a index stands at the point there
pub StandsAt-index :
    (points : List (Option Point)) (placed : PlacedPoints) (index : ℕ) (d : Point) → ArePlaced points placed → index < length placed.points.items
    → StandsAt points (get_or placed.numbers.items index 0) (get_or placed.points.items index d)
StandsAt-index points placed index d h below =
    let low : index < length (present_numbers points) = omega (arith, ArePlaced-numbered points placed h, ap length h.numbers) in
    let n : ℕ = get_or (present_numbers points) index 0 in
    let present : IsPresent points n = All-get_or (IsPresent points) (present_numbers points) index 0 low (present_numbers-present points) in
    let number : get_or placed.numbers.items index 0 ≡ n = ap (λ ns. get_or ns index 0) h.numbers in
    let point : get_or placed.points.items index d ≡ point_of points n =
    ap (λ ps. get_or ps index d) h.points ∙ get_or-map (point_of points) (present_numbers points) index 0 d low in
    ap (point_at points) number ∙ StandsAt-present points n present ∙ ap Some (sym point)

-- each present node has a index
pub present_numbers-all : (points : List (Option Point)) (n : ℕ) → IsPresent points n → Contains (present_numbers points) n
present_numbers-all points n h =
    let below : n < length points = IsPresent-below points n h in
    let itself : get_or (range_with_len 0 (length points)) n n ≡ n = omega (arith, get_or-range_with_len 0 (length points) n n below) in
    Contains-filter (λ i. is_some (point_at points i)) (range_with_len 0 (length points)) n h
    (n, omega (arith, below, length-range_with_len 0 (length points)), itself)

-- ---- the nearest

-- the squared distance of the point at a index to a mark
abbrev pub distance_at : List Point → Point → ℕ → ℕ
distance_at ps mark index = squared_distance (get_or ps index (record { x = 0; y = 0 })) mark

-- the distance of the node at a index
distance_at-index :
    (points : List (Option Point)) (placed : PlacedPoints) (mark : Point) (index : ℕ) → ArePlaced points placed → index < length placed.points.items
    → distance_at placed.points.items mark index ≡ distance_to mark points (get_or placed.numbers.items index 0)
distance_at-index points placed mark index h below =
    let point : Point = get_or placed.points.items index (record { x = 0; y = 0 }) in
    let stands : StandsAt points (get_or placed.numbers.items index 0) point = StandsAt-index points placed index (record { x = 0; y = 0 }) h below in
    sym (ap (λ p. squared_distance p mark) (point_of-stands points (get_or placed.numbers.items index 0) point stands))

-- the scan went over all slots
pub IsNearest-all :
    (points : List (Option Point)) (placed : PlacedPoints) (mark : Point) (limit best least : ℕ) → ArePlaced points placed
    → IsLeastIndex (distance_at placed.points.items mark) (length placed.points.items) limit best least → length placed.points.items ≤ limit
    → IsNearest points mark (get_or placed.numbers.items best 0)
IsNearest-all points placed mark limit best least h scan all =
    let ps : List Point = placed.points.items in
    let numbers : List ℕ = placed.numbers.items in
    let key : ℕ → ℕ = distance_to mark points in
    let lengths : length numbers ≡ length ps = ArePlaced-numbered points placed h in
    let first : IsFirstLeast (distance_at ps mark) (λ index. index < length ps) best =
    IsFirstLeast-index (distance_at ps mark) (length ps) limit best least scan all in
    let same = distance_at-index points placed mark best h first.member in
    let listed : IsFirstLeast key (Contains numbers) (get_or numbers best 0) =
    IsFirstLeast-listed key numbers best (subst IsStrictlyIncreasing (sym h.numbers) (present_numbers-rising points)) (record {
      member = omega (arith, first.member, lengths);
      not_above = λ i l. (
          let below : i < length ps = omega (arith, l, lengths) in
          let there = distance_at-index points placed mark i h below in
          record {
            least = omega (arith, same, there, (first.not_above i below).least);
            first = λ e. (first.not_above i below).first (there ∙ e ∙ sym same);
          });
    }) in
    let P : List ℕ → ℕ → Type 0 = λ ns n. Contains ns n in
    IsFirstLeast-among key (Contains numbers) (IsPresent points) (get_or numbers best 0)
    (λ i own. All-contains (IsPresent points) (present_numbers points) i (present_numbers-present points) (subst (λ ns. P ns i) h.numbers own))
    (λ i own. subst (λ ns. P ns i) (sym h.numbers) (present_numbers-all points i own)) listed

-- ---- those near a point

-- to filter by a weaker test first changes nothing
filter-filter : (p q : ℕ → Bool) (ns : List ℕ) → ((n : ℕ) → q n ≡ true → p n ≡ true) → filter q (filter p ns) ≡ filter q ns
filter-filter p q [] h = refl
filter-filter p q (n ∷ ns) h = by_tests (p n) (q n) (h n) (filter-filter p q ns h) refl
  where
    by_tests :
        (b c : Bool) → (c ≡ true → b ≡ true) → filter q (filter p ns) ≡ filter q ns → q n ≡ c
        → filter q (cond b (n ∷ filter p ns) (filter p ns)) ≡ cond c (n ∷ filter q ns) (filter q ns)
    by_tests true true f e is = rw (is, e) refl
    by_tests true false f e is = rw (is, e) refl
    by_tests false true f e is = (let no = f refl in cc)
    by_tests false false f e is = e

-- the listed nodes below a index that lie near a point
abbrev near_below : List (Option Point) → PlacedPoints → Point → ℕ → ℕ → List ℕ
near_below points placed p r index = filter (λ i. is_within p r (point_at points i)) (take index placed.numbers.items)

module _
    (points : List (Option Point)) (placed : PlacedPoints) (p : Point) (r index : ℕ) (d : Point) (h : ArePlaced points placed)
    (below : index < length placed.points.items) where
  -- one more point
  near_more :
      near_below points placed p r (index + 1) ≡ near_below points placed p r index
      ++ cond (leb (squared_distance (get_or placed.points.items index d) p) (r * r)) (get_or placed.numbers.items index 0 ∷ []) []
  near_more =
      filter_more (λ i. is_within p r (point_at points i)) placed.numbers.items index 0 (omega (arith, below, ArePlaced-numbered points placed h))
      ∙ ap (λ b. near_below points placed p r index ++ cond b (get_or placed.numbers.items index 0 ∷ []) [])
      (ap (is_within p r) (StandsAt-index points placed index d h below))

  -- it is near
  pub near_more_inside :
      (number : ℕ) → number ≡ get_or placed.numbers.items index number → squared_distance (get_or placed.points.items index d) p ≤ r * r
      → near_below points placed p r (index + 1) ≡ near_below points placed p r index ++ number ∷ []
  near_more_inside number read close =
      let numbers : List ℕ = placed.numbers.items in
      let so_far = near_below points placed p r index in
      near_more
      ∙ ap (λ b. so_far ++ cond b (get_or numbers index 0 ∷ []) []) (le-leb (squared_distance (get_or placed.points.items index d) p) (r * r) close)
      ∙ ap (λ n. so_far ++ n ∷ []) (sym (get_or_read numbers index number (omega (arith, below, ArePlaced-numbered points placed h)) read 0))

  -- it is not
  pub near_more_outside :
      r * r < squared_distance (get_or placed.points.items index d) p → near_below points placed p r (index + 1) ≡ near_below points placed p r index
  near_more_outside far =
      let so_far = near_below points placed p r index in
      near_more
      ∙ ap (λ b. so_far ++ cond b (get_or placed.numbers.items index 0 ∷ []) [])
      (lt-leb (squared_distance (get_or placed.points.items index d) p) (r * r) far) ∙ append-nil so_far

-- the scan went over all slots
pub near-all :
    (points : List (Option Point)) (placed : PlacedPoints) (p : Point) (r index : ℕ) → ArePlaced points placed → length placed.points.items ≤ index
    → filter (λ i. is_within p r (point_at points i)) (take index placed.numbers.items) ≡ near points p r
near-all points placed p r index h all =
    let test : ℕ → Bool = λ i. is_within p r (point_at points i) in
    ap (filter test) (take_all index placed.numbers.items (omega (arith, all, ArePlaced-numbered points placed h)) ∙ h.numbers)
    ∙ filter-filter (λ n. is_some (point_at points n)) test (range_with_len 0 (length points)) (λ n own. within_present p r (point_at points n) own)

-- ---- those that are listed as near

-- with radius 0 there are none
pub listed_near-zero : (points : List (Option Point)) (p : Point) (r : ℕ) → r ≡ 0 → listed_near points p r ≡ []
listed_near-zero points p r e = ap (listed_near points p) e

-- with a greater one there are all
pub listed_near-above : (points : List (Option Point)) (p : Point) (r : ℕ) → 0 < r → listed_near points p r ≡ near points p r
listed_near-above points p zero h = absurd (omega arith)
listed_near-above points p (suc r) h = refl

-- so there are if there is one
pub near-listed :
    (points : List (Option Point)) (p : Point) (r : ℕ) (ns : List ℕ) → ns ≡ listed_near points p r → 0 < length ns → ns ≡ near points p r
near-listed points p zero ns e some = absurd (omega (arith, some, ap length e))
near-listed points p (suc r) ns e some = e

-- in any case they are present
pub listed_near-present :
    (points : List (Option Point)) (p : Point) (r : ℕ) (ns : List ℕ) → ns ≡ listed_near points p r → All (IsPresent points) ns
listed_near-present points p zero ns e = subst (All (IsPresent points)) (sym e) (All-nil (IsPresent points))
listed_near-present points p (suc r) ns e = subst (All (IsPresent points)) (sym e) (near-present points p (suc r))

-- and at a free point, at most 0 away from which there is no node
pub listed_near-free : (points : List (Option Point)) (p : Point) (r : ℕ) → IsFree points p → listed_near points p r ≡ near points p r
listed_near-free points p zero free =
    sym (filter-none (λ i. is_within p 0 (point_at points i)) (range_with_len 0 (length points))
    (λ i. is_near_free points p i free (point_at points i) refl))
listed_near-free points p (suc r) free = refl
