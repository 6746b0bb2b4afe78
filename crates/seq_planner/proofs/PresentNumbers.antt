-- The numbers of the nodes that are present, and their points beside them.
use Rattle.seq_planner.proofs.Words.{◌≡◌, ℕ, zero, suc, ◌+◌, ◌<◌, ◌≤◌, Bool, true, false, cond, List, [], ◌∷◌, ◌++◌, length, map, Option, Some, None, arith}
use Rattle.seq_planner.proofs.Words.{refl, sym, ap, ◌∙◌, is_some, unwrap_or, filter, All, range_with_len, IsStrictlyIncreasing, append-nil, length-map}
use Rattle.seq_planner.proofs.Words.{length_push, get_or_append_left, get_or_push, map_push, All-same, All-head, All-tail, All-weaker, All-map, filter-append}
use Rattle.seq_planner.proofs.Words.{filter_passes, fill_by_all, length-range_with_len, get_or-range_with_len, IsStrictlyIncreasing-filter, length-filter}
use Rattle.seq_planner.proofs.Words.{IsBounded, point_at, StandsAt, IsPresent, point_of, node_count, Point, range-more, IsPresent-below, StandsAt-present}
use Rattle.seq_planner.proofs.Words.{present_numbers, ArePlaced, PlacedPoints}

-- ---- ranges and filters

-- each number is below the next
pub IsStrictlyIncreasing-range_with_len : (a n : ℕ) → IsStrictlyIncreasing (range_with_len a n)
IsStrictlyIncreasing-range_with_len a n = λ k l.
    let m = length-range_with_len a n in
    omega (arith, get_or-range_with_len a n k 0 (omega arith), get_or-range_with_len a n (k + 1) 0 (omega arith))

-- two tests that agree at each number of a range keep the same ones
filter-range_agree :
    (p q : ℕ → Bool) (a n : ℕ) → ((i : ℕ) → a ≤ i → i < a + n → p i ≡ q i) → filter p (range_with_len a n) ≡ filter q (range_with_len a n)
filter-range_agree p q a zero h = refl
filter-range_agree p q a (suc n) h =
    let here : p a ≡ q a = h a (omega arith) (omega arith) in
    let later : filter p (range_with_len (a + 1) n) ≡ filter q (range_with_len (a + 1) n) =
    filter-range_agree p q (a + 1) n (λ i low high. h i (omega arith) (omega arith)) in
    rw (here, later) refl

-- two functions that agree at each element give the same list
map_agree : (f g : ℕ → Point) (ns : List ℕ) → All (λ n. f n ≡ g n) ns → map f ns ≡ map g ns
map_agree f g [] h = refl
map_agree f g (n ∷ ns) h =
    let here : f n ≡ g n = All-head (λ n. f n ≡ g n) n ns h in
    let later : map f ns ≡ map g ns = map_agree f g ns (All-tail (λ n. f n ≡ g n) n ns h) in
    rw (here, later) refl

-- what is kept of what a function gives
filter-map : (p : Option Point → Bool) (f : ℕ → Option Point) (ns : List ℕ) → filter p (map f ns) ≡ map f (filter (λ n. p (f n)) ns)
filter-map p f [] = refl
filter-map p f (n ∷ ns) = by_test (p (f n)) (filter-map p f ns)
  where
    by_test :
        (b : Bool) → filter p (map f ns) ≡ map f (filter (λ n. p (f n)) ns)
        → cond b (f n ∷ filter p (map f ns)) (filter p (map f ns)) ≡ map f (cond b (n ∷ filter (λ n. p (f n)) ns) (filter (λ n. p (f n)) ns))
    by_test true h = ap (λ os. f n ∷ os) h
    by_test false h = h

-- ---- the numbers that are present

-- each is present
pub present_numbers-present : (points : List (Option Point)) → All (IsPresent points) (present_numbers points)
present_numbers-present points = filter_passes (λ n. is_some (point_at points n)) (range_with_len 0 (length points))

-- they rise
pub present_numbers-rising : (points : List (Option Point)) → IsStrictlyIncreasing (present_numbers points)
present_numbers-rising points =
    IsStrictlyIncreasing-filter (λ n. is_some (point_at points n)) (range_with_len 0 (length points)) (IsStrictlyIncreasing-range_with_len 0 (length points))

-- there are as many as nodes
pub length-present_numbers : (points : List (Option Point)) → length (present_numbers points) ≡ node_count points
length-present_numbers points =
    let all : points ≡ map (point_at points) (range_with_len 0 (length points)) =
    fill_by_all (point_at points) points (length points) None refl (λ k l. refl) in
    sym (length-map (present_numbers points) (point_at points))
    ∙ sym (ap length (filter-map is_some (point_at points) (range_with_len 0 (length points))))
    ∙ sym (ap (λ os. length (filter is_some os)) all)
    ∙ length-filter is_some points

-- one more number, present or absent
present_numbers-push :
    (points : List (Option Point)) (o : Option Point)
    → present_numbers (points ++ o ∷ []) ≡ present_numbers points ++ cond (is_some o) (length points ∷ []) []
present_numbers-push points o =
    let p : ℕ → Bool = λ n. is_some (point_at points n) in
    let q : ℕ → Bool = λ n. is_some (point_at (points ++ o ∷ []) n) in
    let n : ℕ = length points in
    let kept : filter q (range_with_len 0 n) ≡ filter p (range_with_len 0 n) =
    filter-range_agree q p 0 n (λ i low high. ap is_some (get_or_append_left points (o ∷ []) None i (omega (arith, high)))) in
    let new : q n ≡ is_some o = ap is_some (get_or_push points o None n refl) in
    ap (λ k. filter q (range_with_len 0 k)) (length_push points o)
    ∙ ap (filter q) (range-more n)
    ∙ filter-append q (range_with_len 0 n) (n ∷ [])
    ∙ ap (λ ns. ns ++ cond (q n) (n ∷ []) []) kept
    ∙ ap (λ b. filter p (range_with_len 0 n) ++ cond b (n ∷ []) []) new

-- their points stay as they are
map-point_of-push :
    (points : List (Option Point)) (o : Option Point)
    → map (point_of (points ++ o ∷ [])) (present_numbers points) ≡ map (point_of points) (present_numbers points)
map-point_of-push points o =
    let same : (n : ℕ) → IsPresent points n → point_of (points ++ o ∷ []) n ≡ point_of points n =
    λ n h. ap (λ a. unwrap_or a (record { x = 0; y = 0 })) (get_or_append_left points (o ∷ []) None n (IsPresent-below points n h)) in
    map_agree (point_of (points ++ o ∷ [])) (point_of points) (present_numbers points)
    (All-weaker (IsPresent points) (λ n. point_of (points ++ o ∷ []) n ≡ point_of points n) same (present_numbers points) (present_numbers-present points))

-- ---- the lists

-- a mark that is not placed
pub ArePlaced-absent : (points : List (Option Point)) (placed : PlacedPoints) → ArePlaced points placed → ArePlaced (points ++ None ∷ []) placed
ArePlaced-absent points placed h =
    let same : present_numbers (points ++ None ∷ []) ≡ present_numbers points =
    present_numbers-push points None ∙ append-nil (present_numbers points) in
    record {
      numbers = h.numbers ∙ sym same;
      points = h.points ∙ sym (ap (map (point_of (points ++ None ∷ []))) same ∙ map-point_of-push points None);
    }

-- a mark that is placed
pub ArePlaced-push :
    (points : List (Option Point)) (placed after : PlacedPoints) (point : Point) → ArePlaced points placed
    → after.numbers.items ≡ placed.numbers.items ++ length points ∷ [] → after.points.items ≡ placed.points.items ++ point ∷ []
    → ArePlaced (points ++ Some point ∷ []) after
ArePlaced-push points placed after point h numbers stand =
    let longer : List (Option Point) = points ++ Some point ∷ [] in
    let more : present_numbers longer ≡ present_numbers points ++ length points ∷ [] = present_numbers-push points (Some point) in
    let new : point_of longer (length points) ≡ point =
    ap (λ a. unwrap_or a (record { x = 0; y = 0 })) (get_or_push points (Some point) None (length points) refl) in
    record {
      numbers = numbers ∙ ap (λ ns. ns ++ length points ∷ []) h.numbers ∙ sym more;
      points =
          stand ∙ ap (λ ps. ps ++ point ∷ []) (h.points ∙ sym (map-point_of-push points (Some point)))
          ∙ ap (λ p. map (point_of longer) (present_numbers points) ++ p ∷ []) (sym new)
          ∙ sym (ap (map (point_of longer)) more ∙ map_push (point_of longer) (present_numbers points) (length points));
    }

-- both lists have as many elements
pub ArePlaced-numbered :
    (points : List (Option Point)) (placed : PlacedPoints) → ArePlaced points placed → length placed.numbers.items ≡ length placed.points.items
ArePlaced-numbered points placed h =
    ap length h.numbers ∙ sym (ap length h.points ∙ length-map (present_numbers points) (point_of points))

-- there is one for each node
pub ArePlaced-count :
    (points : List (Option Point)) (placed : PlacedPoints) → ArePlaced points placed → length placed.points.items ≡ node_count points
ArePlaced-count points placed h = ap length h.points ∙ length-map (present_numbers points) (point_of points) ∙ length-present_numbers points

-- points in bounds are so in the list
pub ArePlaced-bounded :
    (points : List (Option Point)) (placed : PlacedPoints) → ArePlaced points placed → ((n : ℕ) (p : Point) → StandsAt points n p → IsBounded p)
    → All IsBounded placed.points.items
ArePlaced-bounded points placed h bounded =
    let each : All (λ n. IsBounded (point_of points n)) (present_numbers points) =
    All-weaker (IsPresent points) (λ n. IsBounded (point_of points n)) (λ n own. bounded n (point_of points n) (StandsAt-present points n own))
    (present_numbers points) (present_numbers-present points) in
    All-same IsBounded placed.points.items (map (point_of points) (present_numbers points)) h.points
    (All-map IsBounded (point_of points) (present_numbers points) each)
