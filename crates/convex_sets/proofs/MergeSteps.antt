-- One step of merging two outlines by the order of their edges' angles.
use Rattle.convex_sets.proofs.Words.{◌≡◌, ◌⊎◌, ℕ, suc, ◌<◌, ◌≤◌, List, length, ◌∙◌, inl, inr, arith, pos, negsuc, ◌*ℤ◌, ◌<ℤ◌, ◌≤ℤ◌, ints, by_lt_z, Vertex}
use Rattle.convex_sets.proofs.Words.{corner_at, cross, from_to, both, edge_at, start, rise, IsOutline, cases_lt, var, same}
use Rattle.convex_sets.proofs.Signs.{mul-positive, mul-not_negative, mul-down_up, not_negative_factor, positive_factor}
use Rattle.convex_sets.proofs.Crosses.{exchange, between, cross_opposite, cross_self, cross-both, both-cross, cross-by_way, seen_is}

-- v points to the left of e, and does not rise again after e has fallen
pub record IsAhead (e v : Vertex) : Type 0 where
  pub left : pos 0 <ℤ cross e v
  pub falls_on : rise e <ℤ pos 0 → rise v <ℤ pos 0

-- The last merged edge is e. The corners i and j are the furthest of their outlines to the right of it, and their next edges lie ahead.
pub record IsAt (a b : List Vertex) (i j : ℕ) (e : Vertex) : Type 0 where
  pub within_a : i < length a
  pub within_b : j < length b
  pub left_a : (k : ℕ) → k < length a → pos 0 ≤ℤ cross e (from_to (corner_at a i) (corner_at a k))
  pub left_b : (l : ℕ) → l < length b → pos 0 ≤ℤ cross e (from_to (corner_at b j) (corner_at b l))
  pub next_a : suc i < length a → IsAhead e (edge_at a i)
  pub next_b : suc j < length b → IsAhead e (edge_at b j)
  pub end_a : suc i ≡ length a → 1 < length a → rise e <ℤ pos 0
  pub end_b : suc j ≡ length b → 1 < length b → rise e <ℤ pos 0

pub IsAt-swap : (a b : List Vertex) (i j : ℕ) (e : Vertex) → IsAt a b i j e → IsAt b a j i e
IsAt-swap a b i j e h =
    record {
      within_a = h.within_b;
      within_b = h.within_a;
      left_a = h.left_b;
      left_b = h.left_a;
      next_a = h.next_b;
      next_b = h.next_a;
      end_a = h.end_b;
      end_b = h.end_a;
    }

-- the merged edge f leads on from e, and has both outlines to its left
pub record IsNext (a b : List Vertex) (i j : ℕ) (e f : Vertex) : Type 0 where
  pub ahead : IsAhead e f
  pub rises_or_falls : (pos 0 <ℤ rise f) ⊎ (rise f <ℤ pos 0)
  pub left_a : (k : ℕ) → k < length a → pos 0 ≤ℤ cross f (from_to (corner_at a i) (corner_at a k))
  pub left_b : (l : ℕ) → l < length b → pos 0 ≤ℤ cross f (from_to (corner_at b j) (corner_at b l))

pub IsNext-swap : (a b : List Vertex) (i j : ℕ) (e f : Vertex) → IsNext a b i j e f → IsNext b a j i e f
IsNext-swap a b i j e f h =
    record { ahead = h.ahead; rises_or_falls = h.rises_or_falls; left_a = h.left_b; left_b = h.left_a }

-- Two edges ahead of e, of which the second lies to the left of the first: if the first falls, so does the second.
falls_after : (e p r : Vertex) → IsAhead e p → IsAhead e r → pos 0 <ℤ cross p r → (pos 0 <ℤ rise r) ⊎ (rise r <ℤ pos 0) → rise p <ℤ pos 0 → rise r <ℤ pos 0
falls_after e p r h k left (inr down) falls = down
falls_after e p r h k left (inl up) falls =
    by_lt_z (rise e) (pos 0) (λ fallen. k.falls_on fallen) (λ risen. absurd (never risen))
  where
    never : pos 0 ≤ℤ rise e → ⊥
    never risen =
        let back : cross p e <ℤ pos 0 = let l = h.left in omega (arith, ints, cross_opposite p e) in
        let one = mul-not_negative (rise e) (cross p r) risen (omega (arith, ints)) in
        let two = mul-down_up (cross p e) (rise r) back up in
        let three = mul-down_up (rise p) (cross e r) falls k.left in
        omega (arith, ints, exchange start e p r, one, two, three)

pub zero_vector : (e v : Vertex) → cross e (from_to v v) ≡ pos 0
zero_vector e v = same (seen_is e v v) (var (pos 0)) (omega arith)

-- what lies to the left of an edge, seen from its end
pub from_end : (p a b c : Vertex) → cross p (from_to a b) ≡ pos 0 → cross p (from_to b c) ≡ cross p (from_to a c)
from_end p a b c none = omega (arith, ints, cross-by_way p a b c, none)

-- The edge of the first outline comes first: the second outline lies to its left.
other_left : (a b : List Vertex) (i j : ℕ) (e p : Vertex) → IsAt a b i j e → IsOutline b → IsAhead e p
    → (suc j < length b → pos 0 <ℤ cross p (edge_at b j)) → (l : ℕ) → l < length b → pos 0 ≤ℤ cross p (from_to (corner_at b j) (corner_at b l))
other_left a b i j e p h outline ahead left l inside =
    elim (cases_lt (suc j) (length b)) [
      | inl next ↦
          let turn = left next in
          between e (edge_at b j) p (from_to (corner_at b j) (corner_at b l)) (h.next_b next).left (let f = ahead.left in omega (arith, ints))
          (omega (arith, ints)) (h.left_b l inside) (outline.left j l next inside)
      | inr last ↦ at_end (let w = h.within_b in omega arith)
    ]
  where
    at_end : (suc j ≡ length b) → pos 0 ≤ℤ cross p (from_to (corner_at b j) (corner_at b l))
    at_end last = by_length (cases_lt 1 (length b))
      where
        by_length : (1 < length b) ⊎ (length b ≤ 1) → pos 0 ≤ℤ cross p (from_to (corner_at b j) (corner_at b l))
        by_length (inl more) =
            let fallen = h.end_b last more in
            let falls = ahead.falls_on fallen in
            let low = outline.low l inside in
            let seen : pos 0 ≤ℤ cross start (from_to (corner_at b j) (corner_at b l)) = rw (outline.closed j last) low in
            between e start p (from_to (corner_at b j) (corner_at b l)) (omega (arith, ints, cross_opposite e start))
            (let f = ahead.left in omega (arith, ints)) (omega (arith, ints, cross_opposite p start)) (h.left_b l inside) seen
        by_length (inr one) =
            let same_place : l ≡ j = omega arith in
            rw (same_place, zero_vector p (corner_at b j)) (omega (arith, ints))

-- the step along the first outline
pub record Step (a b : List Vertex) (i j k l : ℕ) (e f : Vertex) : Type 0 where
  pub at : IsAt a b k l f
  pub next : IsNext a b i j e f

pub take_first : (a b : List Vertex) (i j : ℕ) (e : Vertex) → IsAt a b i j e → IsOutline a → IsOutline b → suc i < length a
    → (suc j < length b → pos 0 <ℤ cross (edge_at a i) (edge_at b j)) → Step a b i j (suc i) j e (edge_at a i)
take_first a b i j e h first second more left =
    let ahead = h.next_a more in
    let other = other_left a b i j e (edge_at a i) h second ahead left in
    record {
      at = record {
        within_a = more;
        within_b = h.within_b;
        left_a = λ k inside. rw (from_end (edge_at a i) (corner_at a i) (corner_at a (suc i)) (corner_at a k) (cross_self (edge_at a i)))
            (first.left i k more inside);
        left_b = other;
        next_a = λ again. record { left = first.turns i again; falls_on = first.falls_on i again };
        next_b = λ again. record {
          left = left again;
          falls_on = falls_after e (edge_at a i) (edge_at b j) ahead (h.next_b again) (left again)
              (second.rises_or_falls j again);
        };
        end_a = λ last some. first.falls_last i last;
        end_b = λ last some. ahead.falls_on (h.end_b last some);
      };
      next = record {
        ahead = ahead;
        rises_or_falls = first.rises_or_falls i more;
        left_a = λ k inside. first.left i k more inside;
        left_b = other;
      };
    }

pub take_second : (a b : List Vertex) (i j : ℕ) (e : Vertex) → IsAt a b i j e → IsOutline a → IsOutline b → suc j < length b
    → (suc i < length a → pos 0 <ℤ cross (edge_at b j) (edge_at a i)) → Step a b i j i (suc j) e (edge_at b j)
take_second a b i j e h first second more left =
    let step = take_first b a j i e (IsAt-swap a b i j e h) second first more left in
    record {
      at = IsAt-swap b a (suc j) i (edge_at b j) step.at;
      next = IsNext-swap b a j i e (edge_at b j) step.next;
    }

-- Of two parallel edges ahead of e, what one has on a side the other has there too.
module _ (e p r : Vertex) (left_p : pos 0 <ℤ cross e p) (left_r : pos 0 <ℤ cross e r) (parallel : cross p r ≡ pos 0) where
  scaled : (x : Vertex) → cross e p *ℤ cross r x ≡ cross e r *ℤ cross p x
  scaled x =
      let none : cross r p ≡ pos 0 = omega (arith, ints, cross_opposite r p, parallel) in
      exchange e p r x ∙ rw none (omega (arith, ints))

  parallel-not_right : (x : Vertex) → pos 0 ≤ℤ cross p x → pos 0 ≤ℤ cross r x
  parallel-not_right x h =
      not_negative_factor (cross e p) (cross r x) left_p (rw (scaled x) (mul-not_negative (cross e r) (cross p x) (omega (arith, ints)) h))

  parallel-left : (x : Vertex) → pos 0 <ℤ cross p x → pos 0 <ℤ cross r x
  parallel-left x h =
      positive_factor (cross e p) (cross r x) (omega (arith, ints)) (rw (scaled x) (mul-positive (cross e r) (cross p x) left_r h))

  parallel-rises : pos 0 <ℤ rise p → pos 0 <ℤ rise r
  parallel-rises h =
      let back : Vertex = record { x = negsuc 16777215; y = pos 1 } in
      let f = parallel-left back (omega (arith, ints)) in
      omega (arith, ints)

  parallel-falls : rise p <ℤ pos 0 → rise r <ℤ pos 0
  parallel-falls h =
      let f = parallel-left start (omega (arith, ints, cross_opposite p start)) in
      omega (arith, ints, cross_opposite r start)

-- both outlines have an edge in the next direction: the sum of the two is the merged edge
pub take_both : (a b : List Vertex) (i j : ℕ) (e : Vertex) → IsAt a b i j e → IsOutline a → IsOutline b → suc i < length a → suc j < length b
    → cross (edge_at a i) (edge_at b j) ≡ pos 0 → Step a b i j (suc i) (suc j) e (both (edge_at a i) (edge_at b j))
take_both a b i j e h first second more again parallel =
    record {
      at = record {
        within_a = more;
        within_b = again;
        left_a = λ k inside. rw (from_end (both p r) (corner_at a i) (corner_at a (suc i)) (corner_at a k) none_p) (left_a k inside);
        left_b = λ l inside. rw (from_end (both p r) (corner_at b j) (corner_at b (suc j)) (corner_at b l) none_r) (left_b l inside);
        next_a = λ m. record {
          left = let one = first.turns i m in let two = parallel-left e p r hp hr parallel (edge_at a (suc i)) one in rw
              (both-cross p r (edge_at a (suc i))) (omega (arith, ints));
          falls_on = λ falls. first.falls_on i m (falls_p falls);
        };
        next_b = λ m. record {
          left = let one = second.turns j m in let two = parallel-left e r p hr hp turned (edge_at b (suc j)) one in rw
              (both-cross p r (edge_at b (suc j))) (omega (arith, ints));
          falls_on = λ falls. second.falls_on j m (parallel-falls e p r hp hr parallel (falls_p falls));
        };
        end_a = λ last some. falls_both (first.falls_last i last);
        end_b = λ last some. falls_both (parallel-falls e r p hr hp turned (second.falls_last j last));
      };
      next = record {
        ahead = record {
          left = rw (cross-both e p r) (omega (arith, ints, hp, hr));
          falls_on = λ falls. falls_both ((h.next_a more).falls_on falls);
        };
        rises_or_falls = elim (first.rises_or_falls i more) [ inl up ↦ inl (rises_both up) | inr down ↦ inr (falls_both down) ];
        left_a = left_a;
        left_b = left_b;
      };
    }
  where
    p : Vertex
    p = edge_at a i

    r : Vertex
    r = edge_at b j

    hp : pos 0 <ℤ cross e (edge_at a i)
    hp = (h.next_a more).left

    hr : pos 0 <ℤ cross e (edge_at b j)
    hr = (h.next_b again).left

    turned : cross (edge_at b j) (edge_at a i) ≡ pos 0
    turned = omega (arith, ints, cross_opposite (edge_at b j) (edge_at a i), parallel)

    none_p : cross (both (edge_at a i) (edge_at b j)) (edge_at a i) ≡ pos 0
    none_p = rw (both-cross (edge_at a i) (edge_at b j) (edge_at a i)) (omega (arith, ints, cross_self (edge_at a i), turned))

    none_r : cross (both (edge_at a i) (edge_at b j)) (edge_at b j) ≡ pos 0
    none_r = rw (both-cross (edge_at a i) (edge_at b j) (edge_at b j)) (omega (arith, ints, cross_self (edge_at b j), parallel))

    left_a : (k : ℕ) → k < length a → pos 0 ≤ℤ cross (both (edge_at a i) (edge_at b j)) (from_to (corner_at a i) (corner_at a k))
    left_a k inside =
        let x = from_to (corner_at a i) (corner_at a k) in
        let one = first.left i k more inside in
        let two = parallel-not_right e (edge_at a i) (edge_at b j) hp hr parallel x one in
        rw (both-cross (edge_at a i) (edge_at b j) x) (omega (arith, ints))

    left_b : (l : ℕ) → l < length b → pos 0 ≤ℤ cross (both (edge_at a i) (edge_at b j)) (from_to (corner_at b j) (corner_at b l))
    left_b l inside =
        let x = from_to (corner_at b j) (corner_at b l) in
        let one = second.left j l again inside in
        let two = parallel-not_right e (edge_at b j) (edge_at a i) hr hp turned x one in
        rw (both-cross (edge_at a i) (edge_at b j) x) (omega (arith, ints))

    falls_both : rise (edge_at a i) <ℤ pos 0 → rise (both (edge_at a i) (edge_at b j)) <ℤ pos 0
    falls_both down =
        let two = parallel-falls e (edge_at a i) (edge_at b j) hp hr parallel down in
        rw (cross-both start (edge_at a i) (edge_at b j)) (omega (arith, ints))

    rises_both : pos 0 <ℤ rise (edge_at a i) → pos 0 <ℤ rise (both (edge_at a i) (edge_at b j))
    rises_both up =
        let two = parallel-rises e (edge_at a i) (edge_at b j) hp hr parallel up in
        rw (cross-both start (edge_at a i) (edge_at b j)) (omega (arith, ints))

    falls_p : rise (both (edge_at a i) (edge_at b j)) <ℤ pos 0 → rise (edge_at a i) <ℤ pos 0
    falls_p falls =
        elim (first.rises_or_falls i more) [ inl up ↦ (let rising = rises_both up in absurd (omega (arith, ints))) | inr down ↦ down ]
