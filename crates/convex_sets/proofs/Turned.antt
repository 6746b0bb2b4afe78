-- The corners of a strictly convex polygon from the lowest on are an outline.
use Rattle.convex_sets.proofs.Words.{◌≡◌, ◌≢◌, ◌⊎◌, ℕ, suc, ◌+◌, ◌-◌, ◌<◌, ◌≤◌, Bool, true, false, ◌||◌, ◌==◌, List, [], ◌∷◌, ◌++◌, length, refl}
use Rattle.convex_sets.proofs.Words.{sym, ap, ◌∙◌, inl, inr, arith, ℤ, pos, ◌<ℤ◌, ◌≤ℤ◌, ints, by_lt_z, cases_lt, cases_eq, lt-ltb, le-ltb, eqb-true}
use Rattle.convex_sets.proofs.Words.{LEAST_CORNER_COORDINATE, MOST_CORNER_COORDINATE, Vertex, corner_at, next_corner, is_strictly_convex, orientation}
use Rattle.convex_sets.proofs.Words.{AreBoundedCorners, IsBoundedCorner, cross, from_to, edge_at, start, rise, IsOutline, IsOutlineOf, IsTurned, places_after}
use Rattle.convex_sets.proofs.Words.{true_of_all, is_corner_between}
use Rattle.convex_sets.proofs.Corners.{same_vector, bounded_corner, bounded_at}
use Rattle.convex_sets.proofs.Crosses.{between, cross_opposite, cross_self, cross-by_way}
use Rattle.convex_sets.proofs.MergeSteps.{zero_vector, from_end}
use Rattle.convex_sets.proofs.MergedPaths.{pushed, at_front, at_end}
use borrow.Author.Count.{below_more}
use Rattle.convex_sets.proofs.ConvexPolygons.{IsConvex, IsConvex-from_test, next_suc, next_last}

pub places_before : (n i k : ℕ) → i + k < n → places_after n i k ≡ i + k
places_before n i k h = let t = lt-ltb (i + k) n h in rw t

pub places_round : (n i k : ℕ) → n ≤ i + k → places_after n i k ≡ i + k - n
places_round n i k h = let t = le-ltb (i + k) n h in rw t

places_within : (n i k : ℕ) → i < n → k ≤ n → places_after n i k < n
places_within n i k p q =
    elim (cases_lt (i + k) n) [ inl r ↦ rw (places_before n i k r) r | inr r ↦ rw (places_round n i k r) (omega arith) ]

places_next : (n i k : ℕ) → i < n → k < n → next_corner n (places_after n i k) ≡ places_after n i (suc k)
places_next n i k p q = by (cases_lt (i + k) n)
  where
    inside : i + k < n → (suc (i + k) < n) ⊎ (n ≤ suc (i + k)) → next_corner n (places_after n i k) ≡ places_after n i (suc k)
    inside r (inl m) =
        rw (places_before n i k r, places_before n i (suc k) (omega arith)) (next_suc n (i + k) m ∙ omega arith)
    inside r (inr m) =
        rw (places_before n i k r, places_round n i (suc k) (omega arith)) (next_last n (i + k) (omega arith) ∙ omega arith)

    by : (i + k < n) ⊎ (n ≤ i + k) → next_corner n (places_after n i k) ≡ places_after n i (suc k)
    by (inl r) = inside r (cases_lt (suc (i + k)) n)
    by (inr r) =
        rw (places_round n i k r, places_round n i (suc k) (omega arith)) (next_suc n (i + k - n) (omega arith) ∙ omega arith)

-- two numbers less than one round apart are two corners
places_apart : (n i k l : ℕ) → i < n → k < l → l < n + k → l ≤ n → places_after n i k ≢ places_after n i l
places_apart n i k l p q r s e = by (cases_lt (i + k) n) (cases_lt (i + l) n)
  where
    by : (i + k < n) ⊎ (n ≤ i + k) → (i + l < n) ⊎ (n ≤ i + l) → ⊥
    by (inl f) (inl g) = omega (arith, sym (places_before n i k f) ∙ e ∙ places_before n i l g)
    by (inl f) (inr g) = omega (arith, sym (places_before n i k f) ∙ e ∙ places_round n i l g)
    by (inr f) (inl g) = omega arith
    by (inr f) (inr g) = omega (arith, sym (places_round n i k f) ∙ e ∙ places_round n i l g)

-- no corner lies to the right of an edge
pub not_right : (corners : List Vertex) (i k : ℕ) → IsConvex corners → i < length corners → k < length corners
    → pos 0 ≤ℤ orientation (corner_at corners i) (corner_at corners (next_corner (length corners) i)) (corner_at corners k)
not_right corners i k convex p q = by (cases_eq k i) (cases_eq k (next_corner (length corners) i))
  where
    by : (k ≡ i) ⊎ (k ≢ i) → (k ≡ next_corner (length corners) i) ⊎ (k ≢ next_corner (length corners) i)
        → pos 0 ≤ℤ orientation (corner_at corners i) (corner_at corners (next_corner (length corners) i)) (corner_at corners k)
    by (inl a) b =
        rw a (omega (arith, ints, zero_vector (from_to (corner_at corners i) (corner_at corners (next_corner (length corners) i))) (corner_at corners i)))
    by (inr a) (inl b) =
        rw b (omega (arith, ints, cross_self (from_to (corner_at corners i) (corner_at corners (next_corner (length corners) i)))))
    by (inr a) (inr b) = let f = convex.left i k p q a b in omega (arith, ints)

next_of_next : (n i : ℕ) → 3 ≤ n → i < n → i ≢ next_corner n (next_corner n i)
next_of_next n i three p e =
    elim (cases_lt (suc i) n) [
      | inl r ↦ elim (cases_lt (suc (suc i)) n) [
        | inl m ↦ omega (arith, e ∙ ap (next_corner n) (next_suc n i r) ∙ next_suc n (suc i) m)
        | inr m ↦ omega (arith, e ∙ ap (next_corner n) (next_suc n i r) ∙ next_last n (suc i) (omega arith))
      ]
      | inr r ↦ omega (arith, e ∙ ap (next_corner n) (next_last n i (omega arith)) ∙ next_suc n 0 (omega arith))
    ]

-- no two corners of a strictly convex polygon are at one point
distinct : (corners : List Vertex) (i k : ℕ) → IsConvex corners → i < length corners → k < length corners → i ≢ k
    → corner_at corners i ≡ corner_at corners k → ⊥
distinct corners i k convex p q apart same =
    elim (cases_eq k (next_corner (length corners) i)) [ inl is ↦ next is | inr off ↦ other off ]
  where
    other : k ≢ next_corner (length corners) i → ⊥
    other off =
        let f = convex.left i k p q (λ e. apart (sym e)) off in
        let g = rw (← same) at f in
        omega (arith, ints, zero_vector (from_to (corner_at corners i) (corner_at corners (next_corner (length corners) i))) (corner_at corners i))

    next : k ≡ next_corner (length corners) i → ⊥
    next is =
        let off : i ≢ next_corner (length corners) k = λ e. next_of_next (length corners) i convex.three p (e ∙ ap (next_corner (length corners)) is) in
        let f = convex.left k i q p apart off in
        let g = rw same at f in
        omega (arith, ints, zero_vector (from_to (corner_at corners k) (corner_at corners (next_corner (length corners) k))) (corner_at corners k))

-- corners that are level with each other are at one point
level_same : (u v : Vertex) → IsBoundedCorner u → IsBoundedCorner v → rise (from_to u v) ≡ pos 0 → u ≡ v
level_same u v p q level =
    let f = bounded_corner u p in
    let g = bounded_corner v q in
    same_vector u v (omega (arith, ints)) (omega (arith, ints))

-- a number that rises or falls, if it is not level
sign_of : (z : ℤ) → (z ≡ pos 0 → ⊥) → (pos 0 <ℤ z) ⊎ (z <ℤ pos 0)
sign_of z h =
    by_lt_z (pos 0) z (λ above. inl above) (λ below. inr (by_lt_z z (pos 0) (λ y. y) (λ level. absurd (h (omega (arith, ints))))))

-- the corners r of a polygon from corner first on, and that corner once more
module _ (corners r : List Vertex) (first : ℕ) (convex : IsConvex corners) (bounded : AreBoundedCorners corners) (inside : first < length corners)
    (lowest : (i : ℕ) → i < length corners → pos 0 ≤ℤ rise (from_to (corner_at corners first) (corner_at corners i)))
    (turned : IsTurned corners r first (length corners + 1)) where
  within : (k : ℕ) → k < length r → places_after (length corners) first k < length corners
  within k h = places_within (length corners) first k inside (omega (arith, turned.number))

  at : (k : ℕ) → k < length r → corner_at r k ≡ corner_at corners (places_after (length corners) first k)
  at k h = turned.at k (omega (arith, turned.number))

  edge_is : (i : ℕ) → suc i < length r → corner_at r (suc i) ≡ corner_at corners (next_corner (length corners) (places_after (length corners) first i))
  edge_is i h =
      at (suc i) h ∙ ap (corner_at corners) (sym (places_next (length corners) first i inside (omega (arith, turned.number))))

  round-left : (i k : ℕ) → suc i < length r → k < length r → pos 0 ≤ℤ cross (edge_at r i) (from_to (corner_at r i) (corner_at r k))
  round-left i k p q =
      rw (at i (omega arith), edge_is i p, at k q)
      (not_right corners (places_after (length corners) first i) (places_after (length corners) first k) convex (within i (omega arith))
      (within k q))

  -- two corners of the round less than a whole round apart are not level
  differ : (i k : ℕ) → i < k → k < length r → k < length corners + i → (rise (from_to (corner_at r i) (corner_at r k)) ≡ pos 0) → ⊥
  differ i k p q s level =
      let n = length corners in
      let j = places_after n first i in
      let l = places_after n first k in
      let here : i < length r = omega arith in
      distinct corners j l convex (within i here) (within k q) (places_apart n first i k inside p s (omega (arith, turned.number)))
      (level_same (corner_at corners j) (corner_at corners l) (bounded_at corners j bounded (within i here))
      (bounded_at corners l bounded (within k q)) (rw (at i here, at k q) at level))

  some : 3 < length r
  some = let three = convex.three in omega (arith, turned.number)

  starts : corner_at r 0 ≡ corner_at corners first
  starts = at 0 (omega (arith, some)) ∙ ap (corner_at corners) (places_before (length corners) first 0 (omega arith) ∙ omega arith)

  ends : corner_at r (length corners) ≡ corner_at r 0
  ends =
      at (length corners) (omega (arith, turned.number)) ∙ ap (corner_at corners)
      (places_round (length corners) first (length corners) (omega arith) ∙ omega arith) ∙ sym starts

  round-low : (k : ℕ) → k < length r → pos 0 ≤ℤ rise (from_to (corner_at r 0) (corner_at r k))
  round-low k q = rw (starts, at k q) (lowest (places_after (length corners) first k) (within k q))

  strictly_low : (k : ℕ) → 0 < k → k < length corners → pos 0 <ℤ rise (from_to (corner_at r 0) (corner_at r k))
  strictly_low k p q =
      let small : k < length r = omega (arith, turned.number) in
      let f = round-low k small in
      by_lt_z (pos 0) (rise (from_to (corner_at r 0) (corner_at r k))) (λ y. y) (λ n. absurd (differ 0 k p small (omega arith) (omega (arith, ints))))

  -- the way back to the lowest corner
  falls_back : (k : ℕ) → 0 < k → k < length corners → rise (from_to (corner_at r k) (corner_at r 0)) <ℤ pos 0
  falls_back k p q =
      let f = strictly_low k p q in
      omega (arith, ints, cross-by_way start (corner_at r 0) (corner_at r k) (corner_at r 0), zero_vector start (corner_at r 0))

  round-turns : (i : ℕ) → suc (suc i) < length r → pos 0 <ℤ cross (edge_at r i) (edge_at r (suc i))
  round-turns i p =
      let n = length corners in
      let j = places_after n first i in
      let k = places_after n first (suc (suc i)) in
      let far = places_apart n first i (suc (suc i)) inside (omega arith) (omega arith) (omega (arith, turned.number)) in
      let near = places_apart n first (suc i) (suc (suc i)) inside (omega arith) (omega arith) (omega (arith, turned.number)) in
      let next = places_next n first i inside (omega (arith, turned.number)) in
      let left = convex.left j k (within i (omega arith)) (within (suc (suc i)) p) (λ e. far (sym e)) (λ e. near (sym (e ∙ next))) in
      rw (from_end (edge_at r i) (corner_at r i) (corner_at r (suc i)) (corner_at r (suc (suc i))) (cross_self (edge_at r i)))
      (rw (at i (omega arith), edge_is i (omega arith), at (suc (suc i)) p) left)

  round-rises_or_falls : (i : ℕ) → suc i < length r → (pos 0 <ℤ rise (edge_at r i)) ⊎ (rise (edge_at r i) <ℤ pos 0)
  round-rises_or_falls i p =
      sign_of (rise (edge_at r i)) (differ i (suc i) (omega arith) p (omega arith))

  round-falls_on : (i : ℕ) → suc (suc i) < length r → rise (edge_at r i) <ℤ pos 0 → rise (edge_at r (suc i)) <ℤ pos 0
  round-falls_on i p falls = elim (round-rises_or_falls (suc i) p) [ inl rises ↦ absurd (never rises) | inr down ↦ down ]
    where
      never : pos 0 <ℤ rise (edge_at r (suc i)) → ⊥
      never rises =
          let x = from_to (corner_at r (suc i)) (corner_at r 0) in
          let f = round-left i 0 (omega arith) (omega arith) in
          let g : pos 0 ≤ℤ cross (edge_at r i) (from_to (corner_at r (suc i)) (corner_at r 0)) = rw
          (from_end (edge_at r i) (corner_at r i) (corner_at r (suc i)) (corner_at r 0) (cross_self (edge_at r i))) f in
          let h = round-left (suc i) 0 p (omega arith) in
          let low = between (edge_at r i) (edge_at r (suc i)) start (from_to (corner_at r (suc i)) (corner_at r 0)) (round-turns i p)
          (omega (arith, ints, cross_opposite (edge_at r i) start)) (omega (arith, ints)) g h in
          let back = falls_back (suc i) (omega arith) (omega (arith, turned.number)) in
          omega (arith, ints)

  IsOutline-round : IsOutline r
  IsOutline-round =
      record {
        some = omega (arith, some);
        closed = λ i h. let last : i ≡ length corners = omega (arith, turned.number) in rw last ends;
        left = round-left;
        turns = round-turns;
        rises_or_falls = round-rises_or_falls;
        falls_on = round-falls_on;
        rises_first = λ h. let three = convex.three in strictly_low 1 (omega arith) (omega arith);
        falls_last = λ i h.
            let last : suc i ≡ length corners = omega (arith, turned.number) in
            let back : corner_at r (suc i) ≡ corner_at r 0 = ap (corner_at r) last ∙ ends in
            rw back (falls_back i (omega arith) (omega arith));
        low = round-low;
      }

IsOutline-point : (corners r : List Vertex) (first : ℕ) → IsTurned corners r first 1 → IsOutline r
IsOutline-point corners r first turned =
    record {
      some = omega arith;
      closed = λ i h. let z : i ≡ 0 = omega arith in rw z;
      left = λ i k h. absurd (omega arith);
      turns = λ i h. absurd (omega arith);
      rises_or_falls = λ i h. absurd (omega arith);
      falls_on = λ i h. absurd (omega arith);
      rises_first = λ h. absurd (omega arith);
      falls_last = λ i h. absurd (omega arith);
      low = λ k h. let z : k ≡ 0 = omega arith in rw (z, zero_vector start (corner_at r 0)) (omega (arith, ints));
    }

pub IsTurned-push : (corners r more : List Vertex) (first k : ℕ) (v : Vertex) → IsTurned corners r first k → more ≡ r ++ v ∷ []
    → v ≡ corner_at corners (places_after (length corners) first k) → IsTurned corners more first (k + 1)
IsTurned-push corners r more first k v turned e is =
    let number = turned.number in
    rw e (record {
      number = omega (arith, pushed r v);
      at = below_more (λ i. corner_at (r ++ v ∷ []) i ≡ corner_at corners (places_after (length corners) first i)) k
          (λ i h. at_front r v i (omega arith) ∙ turned.at i h) (at_end r v k (omega arith) ∙ is);
    })

second_of : (a b : Bool) → (a || b) ≡ true → ¬ (a ≡ true) → b ≡ true
second_of true b h n = absurd (n refl)
second_of false b h n = h

-- the list that goes round once has every corner, and no other
module _ (corners r : List Vertex) (first count : ℕ) (inside : first < length corners) (whole : length corners ≤ count)
    (round : count ≤ length corners + 1) (closes : length corners ≢ 1 → length corners < count) (turned : IsTurned corners r first count) where
  from : (k : ℕ) → k < length r → (i : ℕ) × (i < length corners) × (corner_at r k ≡ corner_at corners i)
  from k h =
      (places_after (length corners) first k, places_within (length corners) first k inside (omega arith), turned.at k (omega arith))

  all : (i : ℕ) → i < length corners → (k : ℕ) × (k < length r) × (corner_at corners i ≡ corner_at r k)
  all i h = by (cases_lt i first)
    where
      number : length r ≡ count
      number = turned.number

      by : (i < first) ⊎ (first ≤ i) → (k : ℕ) × (k < length r) × (corner_at corners i ≡ corner_at r k)
      by (inl l) =
          let k = i + length corners - first in
          let small : k < count = omega arith in
          let is : places_after (length corners) first k ≡ i = places_round (length corners) first k (omega arith) ∙ omega arith in
          (k, omega (arith, number), sym (turned.at k small ∙ ap (corner_at corners) is))
      by (inr l) =
          let k = i - first in
          let small : k < count = omega arith in
          let is : places_after (length corners) first k ≡ i = places_before (length corners) first k (omega arith) ∙ omega arith in
          (k, omega (arith, number), sym (turned.at k small ∙ ap (corner_at corners) is))

  IsOutlineOf-round : IsOutlineOf corners r
  IsOutlineOf-round =
      record { closes = λ more. let number = turned.number in let f = closes more in omega arith; from = from; all = all }

  bounded-round : AreBoundedCorners corners → AreBoundedCorners r
  bounded-round h =
      true_of_all (is_corner_between LEAST_CORNER_COORDINATE MOST_CORNER_COORDINATE) r (record { x = pos 0; y = pos 0 }) (λ i l.
      let f = from i l in
      let e = f.2 in
      rw e (bounded_at corners f.0 h f.1))

-- what the corners from the lowest on are, if they go round once
pub record IsRound (corners r : List Vertex) : Type 0 where
  pub outline : IsOutline r
  pub same_corners : IsOutlineOf corners r
  pub bounded : AreBoundedCorners r

pub IsRound-point : (corners r : List Vertex) (first count : ℕ) → length corners ≡ 1 → count ≡ 1 → first < length corners → AreBoundedCorners corners
    → IsTurned corners r first count → IsRound corners r
IsRound-point corners r first count one is inside bounded turned =
    record {
      outline = IsOutline-point corners r first (rw is at turned);
      same_corners = IsOutlineOf-round corners r first count inside (omega arith) (omega arith) (λ more. absurd (more one)) turned;
      bounded = bounded-round corners r first count inside (omega arith) (omega arith) (λ more. absurd (more one)) turned bounded;
    }

pub IsRound-polygon : (corners r : List Vertex) (first count : ℕ) → (length corners == 1 || is_strictly_convex corners) ≡ true → length corners ≢ 1
    → count ≡ length corners + 1 → first < length corners
    → ((i : ℕ) → i < length corners → pos 0 ≤ℤ rise (from_to (corner_at corners first) (corner_at corners i))) → AreBoundedCorners corners
    → IsTurned corners r first count → IsRound corners r
IsRound-polygon corners r first count shape more is inside lowest bounded turned =
    let convex = IsConvex-from_test corners (second_of (length corners == 1) (is_strictly_convex corners) shape (λ e. more (eqb-true (length corners) 1 e))) in
    record {
      outline = IsOutline-round corners r first convex bounded inside lowest (rw is at turned);
      same_corners = IsOutlineOf-round corners r first count inside (omega arith) (omega arith) (λ m. omega arith) turned;
      bounded = bounded-round corners r first count inside (omega arith) (omega arith) (λ m. omega arith) turned bounded;
    }
