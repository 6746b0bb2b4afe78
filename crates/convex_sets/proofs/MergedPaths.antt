-- The merged outline as far as it has come, and its closing.
use Rattle.convex_sets.proofs.Words.{◌≡◌, ◌⊎◌, ℕ, suc, ◌+◌, ◌-◌, ◌<◌, ◌≤◌, List, [], ◌∷◌, ◌++◌, length, refl, sym, ap, subst, ◌∙◌, inl, inr, arith, pos, ◌+ℤ◌}
use Rattle.convex_sets.proofs.Words.{◌<ℤ◌, ◌≤ℤ◌, ints, cases_lt, length-append, get_or-append, get_or-append_seam, Vertex, corner_at, cross, from_to, both}
use Rattle.convex_sets.proofs.Words.{edge_at, start, rise, IsOutline, IsSum, IsMergeStep, var, plus, minus, times, same}
use Rattle.convex_sets.proofs.Corners.{same_vector}
use Rattle.convex_sets.proofs.Crosses.{seen_is}
use Rattle.convex_sets.proofs.MergeSteps.{IsAhead, IsAt, IsNext, Step, take_first, take_second, take_both}

-- the corners so far, the current one last, and the last edge e
pub record IsPath (a b corners : List Vertex) (e : Vertex) : Type 0 where
  pub turns : (u : ℕ) → suc (suc u) < length corners → IsAhead (edge_at corners u) (edge_at corners (suc u))
  pub rises_or_falls : (u : ℕ) → suc u < length corners → (pos 0 <ℤ rise (edge_at corners u)) ⊎ (rise (edge_at corners u) <ℤ pos 0)
  pub supports : (u k l : ℕ) → suc u < length corners → k < length a → l < length b
      → pos 0 ≤ℤ cross (edge_at corners u) (from_to (corner_at corners u) (both (corner_at a k) (corner_at b l)))
  pub sums : (u : ℕ) → u < length corners → IsSum a b (corner_at corners u)
  pub heading : (u : ℕ) → suc (suc u) ≡ length corners → edge_at corners u ≡ e
  pub first : corner_at corners 0 ≡ both (corner_at a 0) (corner_at b 0)

-- The outlines are merged up to corner i of the first and corner j of the second.
pub record IsMergedTo (a b corners : List Vertex) (i j : ℕ) : Type 0 where
  pub heading : Vertex
  pub at : IsAt a b i j heading
  pub path : IsPath a b (corners ++ both (corner_at a i) (corner_at b j) ∷ []) heading
  pub long_a : i ≤ length corners
  pub long_b : j ≤ length corners

pub at_front : (corners : List Vertex) (z : Vertex) (u : ℕ) → u < length corners → corner_at (corners ++ z ∷ []) u ≡ corner_at corners u
at_front corners z u h = get_or-append corners (z ∷ []) (record { x = pos 0; y = pos 0 }) u h

pub at_end : (corners : List Vertex) (z : Vertex) (u : ℕ) → u ≡ length corners → corner_at (corners ++ z ∷ []) u ≡ z
at_end corners z u h = rw h (get_or-append_seam corners z [] (record { x = pos 0; y = pos 0 }))

edge_front : (corners : List Vertex) (z : Vertex) (u : ℕ) → suc u < length corners → edge_at (corners ++ z ∷ []) u ≡ edge_at corners u
edge_front corners z u h = rw (at_front corners z u (omega arith), at_front corners z (suc u) h)

edge_end : (corners : List Vertex) (y z : Vertex) (u : ℕ) → suc u ≡ length corners → corner_at corners u ≡ y → edge_at (corners ++ z ∷ []) u ≡ from_to y z
edge_end corners y z u h e = rw (at_front corners z u (omega arith), at_end corners z (suc u) h, e)

pub pushed : (corners : List Vertex) (z : Vertex) → length (corners ++ z ∷ []) ≡ suc (length corners)
pushed corners z = omega (arith, length-append corners (z ∷ []))

-- the vector between two sums, by its parts
pub cross-sums : (f a b c d : Vertex) → cross f (from_to (both a b) (both c d)) ≡ (cross f (from_to a c) +ℤ cross f (from_to b d))
cross-sums f a b c d =
    same (minus (times (var f.x) (minus (plus (var c.y) (var d.y)) (plus (var a.y) (var b.y))))
    (times (var f.y) (minus (plus (var c.x) (var d.x)) (plus (var a.x) (var b.x)))))
    (plus (seen_is f a c) (seen_is f b d)) (omega arith)

ahead_by : (p q r s : Vertex) → q ≡ p → s ≡ r → IsAhead p r → IsAhead q s
ahead_by p q r s e f h = rw (e, f) h

sign_by : (p q : Vertex) → q ≡ p → (pos 0 <ℤ rise p) ⊎ (rise p <ℤ pos 0) → (pos 0 <ℤ rise q) ⊎ (rise q <ℤ pos 0)
sign_by p q e h = subst (λ (v : Vertex). (pos 0 <ℤ rise v) ⊎ (rise v <ℤ pos 0)) (sym e) h

left_by : (p q c d x : Vertex) → q ≡ p → d ≡ c → pos 0 ≤ℤ cross p (from_to c x) → pos 0 ≤ℤ cross q (from_to d x)
left_by p q c d x e f h =
    subst (λ (v : Vertex). pos 0 ≤ℤ cross v (from_to d x)) (sym e) (subst (λ (v : Vertex). pos 0 ≤ℤ cross p (from_to v x)) (sym f) h)

-- the path with one more edge f, from the sum of corners i and j to z
module _ (a b corners : List Vertex) (i j k l : ℕ) (e f z : Vertex) (path : IsPath a b corners e) (next : IsNext a b i j e f)
    (some : 0 < length corners) (last : (u : ℕ) → suc u ≡ length corners → corner_at corners u ≡ both (corner_at a i) (corner_at b j))
    (edge : from_to (both (corner_at a i) (corner_at b j)) z ≡ f) where
  new_edge : (u : ℕ) → suc u ≡ length corners → edge_at (corners ++ z ∷ []) u ≡ f
  new_edge u h = edge_end corners (both (corner_at a i) (corner_at b j)) z u h (last u h) ∙ edge

  push-turns : (u : ℕ) → suc (suc u) < length (corners ++ z ∷ []) → IsAhead (edge_at (corners ++ z ∷ []) u) (edge_at (corners ++ z ∷ []) (suc u))
  push-turns u h =
      elim (cases_lt (suc (suc u)) (length corners)) [
        | inl m ↦
            ahead_by (edge_at corners u) _ (edge_at corners (suc u)) _ (edge_front corners z u (omega arith)) (edge_front corners z (suc u) m) (path.turns u m)
        | inr m ↦
            let is : suc (suc u) ≡ length corners = omega (arith, pushed corners z) in
            ahead_by e _ f _ (edge_front corners z u (omega arith) ∙ path.heading u is) (new_edge (suc u) is) next.ahead
      ]

  push-rises_or_falls : (u : ℕ) → suc u < length (corners ++ z ∷ [])
      → (pos 0 <ℤ rise (edge_at (corners ++ z ∷ []) u)) ⊎ (rise (edge_at (corners ++ z ∷ []) u) <ℤ pos 0)
  push-rises_or_falls u h =
      elim (cases_lt (suc u) (length corners)) [
        | inl m ↦ sign_by (edge_at corners u) _ (edge_front corners z u m) (path.rises_or_falls u m)
        | inr m ↦ sign_by f _ (new_edge u (omega (arith, pushed corners z))) next.rises_or_falls
      ]

  push-supports : (u m n : ℕ) → suc u < length (corners ++ z ∷ []) → m < length a → n < length b
      → pos 0 ≤ℤ cross (edge_at (corners ++ z ∷ []) u) (from_to (corner_at (corners ++ z ∷ []) u) (both (corner_at a m) (corner_at b n)))
  push-supports u m n h p q =
      elim (cases_lt (suc u) (length corners)) [
        | inl r ↦
            left_by (edge_at corners u) _ (corner_at corners u) _ (both (corner_at a m) (corner_at b n)) (edge_front corners z u r)
            (at_front corners z u (omega arith)) (path.supports u m n r p q)
        | inr r ↦
            let is : suc u ≡ length corners = omega (arith, pushed corners z) in
            let one = next.left_a m p in
            let two = next.left_b n q in
            left_by f _ (both (corner_at a i) (corner_at b j)) _ (both (corner_at a m) (corner_at b n)) (new_edge u is)
            (at_front corners z u (omega arith) ∙ last u is)
            (rw (cross-sums f (corner_at a i) (corner_at b j) (corner_at a m) (corner_at b n)) (omega (arith, ints)))
      ]

  push-sums : IsSum a b z → (u : ℕ) → u < length (corners ++ z ∷ []) → IsSum a b (corner_at (corners ++ z ∷ []) u)
  push-sums s u h =
      elim (cases_lt u (length corners)) [
        | inl m ↦ rw (at_front corners z u m) (path.sums u m)
        | inr m ↦ rw (at_end corners z u (omega (arith, pushed corners z))) s
      ]

  IsPath-push : IsSum a b z → IsPath a b (corners ++ z ∷ []) f
  IsPath-push s =
      record {
        turns = push-turns;
        rises_or_falls = push-rises_or_falls;
        supports = push-supports;
        sums = push-sums s;
        heading = λ u h. new_edge u (omega (arith, pushed corners z));
        first = at_front corners z 0 some ∙ path.first;
      }

step : (a b corners : List Vertex) (i j k l : ℕ) (f : Vertex) (m : IsMergedTo a b corners i j) → Step a b i j k l m.heading f → k ≤ suc i → l ≤ suc j
    → from_to (both (corner_at a i) (corner_at b j)) (both (corner_at a k) (corner_at b l)) ≡ f
    → IsMergedTo a b (corners ++ both (corner_at a i) (corner_at b j) ∷ []) k l
step a b corners i j k l f m s small_a small_b edge =
    let y = both (corner_at a i) (corner_at b j) in
    let z = both (corner_at a k) (corner_at b l) in
    let sum : IsSum a b z = record { first = k; second = l; within_first = s.at.within_a; within_second = s.at.within_b; is = refl } in
    record {
      heading = f;
      at = s.at;
      path = IsPath-push a b (corners ++ y ∷ []) i j k l m.heading f z m.path s.next (omega (arith, pushed corners y))
          (λ u h. at_end corners y u (omega (arith, pushed corners y))) edge sum;
      long_a = omega (arith, pushed corners y);
      long_b = omega (arith, pushed corners y);
    }

pub step_first : (a b corners : List Vertex) (i j : ℕ) → IsMergedTo a b corners i j → IsOutline a → IsOutline b → suc i < length a
    → (suc j < length b → pos 0 <ℤ cross (edge_at a i) (edge_at b j))
    → IsMergedTo a b (corners ++ both (corner_at a i) (corner_at b j) ∷ []) (suc i) j
step_first a b corners i j m first second more left =
    step a b corners i j (suc i) j (edge_at a i) m (take_first a b i j m.heading m.at first second more left) (omega arith) (omega arith)
    (same_vector _ _ (omega (arith, ints)) (omega (arith, ints)))

pub step_second : (a b corners : List Vertex) (i j : ℕ) → IsMergedTo a b corners i j → IsOutline a → IsOutline b → suc j < length b
    → (suc i < length a → pos 0 <ℤ cross (edge_at b j) (edge_at a i))
    → IsMergedTo a b (corners ++ both (corner_at a i) (corner_at b j) ∷ []) i (suc j)
step_second a b corners i j m first second more left =
    step a b corners i j i (suc j) (edge_at b j) m (take_second a b i j m.heading m.at first second more left) (omega arith) (omega arith)
    (same_vector _ _ (omega (arith, ints)) (omega (arith, ints)))

pub step_both : (a b corners : List Vertex) (i j : ℕ) → IsMergedTo a b corners i j → IsOutline a → IsOutline b → suc i < length a → suc j < length b
    → cross (edge_at a i) (edge_at b j) ≡ pos 0 → IsMergedTo a b (corners ++ both (corner_at a i) (corner_at b j) ∷ []) (suc i) (suc j)
step_both a b corners i j m first second more again parallel =
    step a b corners i j (suc i) (suc j) (both (edge_at a i) (edge_at b j)) m (take_both a b i j m.heading m.at first second more again parallel)
    (omega arith) (omega arith) (same_vector _ _ (omega (arith, ints)) (omega (arith, ints)))

pub IsMergedTo-start : (a b : List Vertex) → IsOutline a → IsOutline b → IsMergedTo a b [] 0 0
IsMergedTo-start a b first second =
    let level : rise start ≡ pos 0 = refl in
    record {
      heading = start;
      at = record {
        within_a = first.some;
        within_b = second.some;
        left_a = first.low;
        left_b = second.low;
        next_a = λ more. record { left = first.rises_first (omega arith); falls_on = λ falls. absurd (omega (arith, ints)) };
        next_b = λ more. record { left = second.rises_first (omega arith); falls_on = λ falls. absurd (omega (arith, ints)) };
        end_a = λ last some. absurd (omega arith);
        end_b = λ last some. absurd (omega arith);
      };
      path = record {
        turns = λ u h. absurd (omega arith);
        rises_or_falls = λ u h. absurd (omega arith);
        supports = λ u k l h. absurd (omega arith);
        sums = λ u h. record { first = 0; second = 0; within_first = first.some; within_second = second.some; is = let z : u ≡ 0 = omega arith in rw z };
        heading = λ u h. absurd (omega arith);
        first = refl;
      };
      long_a = omega arith;
      long_b = omega arith;
    }

pub IsMergedTo-step : (a b corners more : List Vertex) (i j k l : ℕ) → IsMergedTo a b corners i j → IsOutline a → IsOutline b → IsMergeStep a b i j k l
    → more ≡ corners ++ both (corner_at a i) (corner_at b j) ∷ [] → IsMergedTo a b more k l
IsMergedTo-step a b corners more i j k l m first second (inl s) e =
    rw (e, s.first, s.second) (step_first a b corners i j m first second s.more s.turns_left)
IsMergedTo-step a b corners more i j k l m first second (inr (inl s)) e =
    rw (e, s.first, s.second) (step_second a b corners i j m first second s.more s.turns_left)
IsMergedTo-step a b corners more i j k l m first second (inr (inr s)) e =
    rw (e, s.first, s.second) (step_both a b corners i j m first second s.more_first s.more_second s.parallel)

pub IsMergeStep-goes_on : (a b : List Vertex) (i j k l : ℕ) → IsMergeStep a b i j k l → (i < length a) → (j < length b)
    → (length a - k) + (length b - l) < (length a - i) + (length b - j)
IsMergeStep-goes_on a b i j k l (inl s) p q = let f = s.first in let g = s.second in omega arith
IsMergeStep-goes_on a b i j k l (inr (inl s)) p q = let f = s.first in let g = s.second in omega arith
IsMergeStep-goes_on a b i j k l (inr (inr s)) p q = let f = s.first in let g = s.second in omega arith

pub pushed_is : (corners more : List Vertex) (u v : Vertex) → more ≡ corners ++ u ∷ [] → u.x ≡ v.x → u.y ≡ v.y → more ≡ corners ++ v ∷ []
pushed_is corners more u v e f g = e ∙ ap (λ (w : Vertex). corners ++ w ∷ []) (same_vector u v f g)
