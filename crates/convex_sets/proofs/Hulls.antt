-- Weighted means of corners: closed convex hulls, and the side of a line on which they lie.
use Rattle.convex_sets.proofs.Words.{◌≡◌, ℕ, ◌+◌, ◌<◌, zero, suc, List, [], ◌∷◌, length, refl, ap, ◌∙◌, arith, ℤ, pos, ◌+ℤ◌, ◌-ℤ◌, ◌*ℤ◌, ◌<ℤ◌, ◌≤ℤ◌, sum, ints}
use Rattle.convex_sets.proofs.Words.{sum_by-cons, Vertex, corner_at, Meets, weighted, Rational, SharesPoint-meets, Meets-shares_point, cross, from_to, var}
use Rattle.convex_sets.proofs.Words.{plus, minus, times, same}
use Rattle.convex_sets.proofs.Signs.{mul-not_negative, not_negative_factor}
use Rattle.convex_sets.proofs.Crosses.{seen_is}
use Rattle.convex_sets.proofs.Fans.{out_to, IsMeanOf}

-- the weighted sum of corners, seen from another corner
abbrev pub sum_from : Vertex → List ℕ → List Vertex → Vertex
sum_from z ws corners =
    record {
      x = weighted (λ v. v.x) ws corners -ℤ (pos (sum ws) *ℤ z.x);
      y = weighted (λ v. v.y) ws corners -ℤ (pos (sum ws) *ℤ z.y);
    }

one_more : (e z c : Vertex) (w s : ℕ) (x y : ℤ)
    → ((e.x *ℤ (((pos w *ℤ c.y) +ℤ y) -ℤ (pos (w + s) *ℤ z.y))) -ℤ (e.y *ℤ (((pos w *ℤ c.x) +ℤ x) -ℤ (pos (w + s) *ℤ z.x)))) ≡
    (pos w *ℤ cross e (from_to z c)) +ℤ ((e.x *ℤ (y -ℤ (pos s *ℤ z.y))) -ℤ (e.y *ℤ (x -ℤ (pos s *ℤ z.x))))
one_more e z c w s x y =
    same (minus (times (var e.x) (minus (plus (times (var (pos w)) (var c.y)) (var y)) (times (var (pos (w + s))) (var z.y))))
    (times (var e.y) (minus (plus (times (var (pos w)) (var c.x)) (var x)) (times (var (pos (w + s))) (var z.x)))))
    (plus (times (var (pos w)) (seen_is e z c))
    (minus (times (var e.x) (minus (var y) (times (var (pos s)) (var z.y)))) (times (var e.y) (minus (var x) (times (var (pos s)) (var z.x))))))
    (omega arith)

one_more_of : (e z c : Vertex) (w s t : ℕ) (x y : ℤ) → t ≡ w + s
    → ((e.x *ℤ (((pos w *ℤ c.y) +ℤ y) -ℤ (pos t *ℤ z.y))) -ℤ (e.y *ℤ (((pos w *ℤ c.x) +ℤ x) -ℤ (pos t *ℤ z.x)))) ≡ (pos w *ℤ cross e (from_to z c)) +ℤ
    ((e.x *ℤ (y -ℤ (pos s *ℤ z.y))) -ℤ (e.y *ℤ (x -ℤ (pos s *ℤ z.x))))
one_more_of e z c w s t x y h = rw h (one_more e z c w s x y)

pub sum-cons : (w : ℕ) (ws : List ℕ) → sum (w ∷ ws) ≡ w + sum ws
sum-cons w ws = sum_by-cons (λ n. n) w ws

no_corner : (e z : Vertex) → pos 0 ≤ℤ ((e.x *ℤ (pos 0 -ℤ (pos 0 *ℤ z.y))) -ℤ (e.y *ℤ (pos 0 -ℤ (pos 0 *ℤ z.x))))
no_corner e z =
    let h : ((e.x *ℤ (pos 0 -ℤ (pos 0 *ℤ z.y))) -ℤ (e.y *ℤ (pos 0 -ℤ (pos 0 *ℤ z.x)))) ≡ pos 0 = same
    (minus (times (var e.x) (minus (var (pos 0)) (times (var (pos 0)) (var z.y))))
    (times (var e.y) (minus (var (pos 0)) (times (var (pos 0)) (var z.x))))) (var (pos 0)) (omega arith) in
    omega (arith, ints, h)

-- corners to the left of a line have their weighted sum to its left
pub left_sum : (e z : Vertex) (ws : List ℕ) (corners : List Vertex) → length ws ≡ length corners
    → ((i : ℕ) → i < length corners → pos 0 ≤ℤ cross e (from_to z (corner_at corners i))) → pos 0 ≤ℤ cross e (sum_from z ws corners)
left_sum e z [] [] l h = no_corner e z
left_sum e z [] (c ∷ cs) l h = absurd (omega arith)
left_sum e z (w ∷ ws) [] l h = absurd (omega arith)
left_sum e z (w ∷ ws) (c ∷ cs) l h =
    let rest = left_sum e z ws cs (omega arith) (λ i k. h (suc i) (omega arith)) in
    let first = mul-not_negative (pos w) (cross e (from_to z c)) (omega (arith, ints)) (h 0 (omega arith)) in
    rw (one_more_of e z c w (sum ws) (sum (w ∷ ws)) (weighted (λ v. v.x) ws cs) (weighted (λ v. v.y) ws cs) (sum-cons w ws)) (omega (arith, ints))

-- the weights with one more at a corner
pub bump : ℕ → ℕ → List ℕ → List ℕ
bump k u [] = []
bump zero u (w ∷ ws) = (w + u) ∷ ws
bump (suc k) u (w ∷ ws) = w ∷ bump k u ws

pub length-bump : (k u : ℕ) (ws : List ℕ) → length (bump k u ws) ≡ length ws
unfolding bump
length-bump k u [] = refl
length-bump zero u (w ∷ ws) = refl
length-bump (suc k) u (w ∷ ws) = ap suc (length-bump k u ws)

pub sum-bump : (k u : ℕ) (ws : List ℕ) → k < length ws → sum (bump k u ws) ≡ sum ws + u
unfolding bump
sum-bump k u [] h = absurd (omega arith)
sum-bump zero u (w ∷ ws) h = omega (arith, sum-cons (w + u) ws, sum-cons w ws)
sum-bump (suc k) u (w ∷ ws) h =
    omega (arith, sum-bump k u ws (omega arith), sum-cons w (bump k u ws), sum-cons w ws)

pub weighted-bump : (f : Vertex → ℤ) (k u : ℕ) (ws : List ℕ) (corners : List Vertex) → length ws ≡ length corners → k < length corners
    → weighted f (bump k u ws) corners ≡ (weighted f ws corners +ℤ (pos u *ℤ f (corner_at corners k)))
unfolding bump
weighted-bump f k u [] [] l h = absurd (omega arith)
weighted-bump f k u [] (c ∷ cs) l h = absurd (omega arith)
weighted-bump f k u (w ∷ ws) [] l h = absurd (omega arith)
weighted-bump f zero u (w ∷ ws) (c ∷ cs) l h =
    same (plus (times (var (pos (w + u))) (var (f c))) (var (weighted f ws cs)))
    (plus (plus (times (var (pos w)) (var (f c))) (var (weighted f ws cs))) (times (var (pos u)) (var (f c)))) (omega arith)
weighted-bump f (suc k) u (w ∷ ws) (c ∷ cs) l h =
    let e = weighted-bump f k u ws cs (omega arith) (omega arith) in
    rw e (omega (arith, ints))

pub zeros : List Vertex → List ℕ
zeros [] = []
zeros (c ∷ cs) = 0 ∷ zeros cs

pub length-zeros : (corners : List Vertex) → length (zeros corners) ≡ length corners
unfolding zeros
length-zeros [] = refl
length-zeros (c ∷ cs) = ap suc (length-zeros cs)

pub sum-zeros : (corners : List Vertex) → sum (zeros corners) ≡ 0
unfolding zeros
sum-zeros [] = refl
sum-zeros (c ∷ cs) = omega (arith, sum-zeros cs, sum-cons 0 (zeros cs))

pub weighted-zeros : (f : Vertex → ℤ) (corners : List Vertex) → weighted f (zeros corners) corners ≡ pos 0
unfolding zeros
weighted-zeros f [] = refl
weighted-zeros f (c ∷ cs) = let e = weighted-zeros f cs in omega (arith, ints)

-- weights on a polygon's corners that stand for weights on three of them
pub record Weights (corners : List Vertex) (i j k u v w : ℕ) : Type 0 where
  pub on : List ℕ
  pub corners_number : length on ≡ length corners
  pub total : sum on ≡ u + v + w
  pub sums : (f : Vertex → ℤ) → weighted f on corners ≡
      (((pos u *ℤ f (corner_at corners i)) +ℤ (pos v *ℤ f (corner_at corners j))) +ℤ (pos w *ℤ f (corner_at corners k)))

pub weights : (corners : List Vertex) (i j k u v w : ℕ) → i < length corners → j < length corners → k < length corners → Weights corners i j k u v w
weights cs i j k u v w p q r =
    let none = zeros cs in
    let first = bump i u none in
    let second = bump j v first in
    let third = bump k w second in
    let n = length-zeros cs in
    let a : length first ≡ length cs = length-bump i u none ∙ n in
    let b : length second ≡ length cs = length-bump j v first ∙ a in
    let c : length third ≡ length cs = length-bump k w second ∙ b in
    record {
      on = third;
      corners_number = c;
      total = omega (arith, sum-zeros cs, sum-bump i u none (omega arith), sum-bump j v first (omega arith), sum-bump k w second (omega arith));
      sums = λ f. rw (weighted-bump f k w second cs b r, weighted-bump f j v first cs a q, weighted-bump f i u none cs n p, weighted-zeros f cs)
          (omega (arith, ints));
    }

-- the vector from one corner to another, as a corner
abbrev pub difference : Vertex → Vertex → Vertex
difference a b = record { x = a.x -ℤ b.x; y = a.y -ℤ b.y }

abbrev pub turned_back : Vertex → Vertex
turned_back e = record { x = pos 0 -ℤ e.x; y = pos 0 -ℤ e.y }

apart : (e a b : Vertex) (l d x y : ℤ) (s t u v : ℤ) → d *ℤ (s -ℤ u) ≡ l *ℤ x → d *ℤ (t -ℤ v) ≡ l *ℤ y
    → l *ℤ ((e.x *ℤ (y -ℤ (d *ℤ (a.y -ℤ b.y)))) -ℤ (e.y *ℤ (x -ℤ (d *ℤ (a.x -ℤ b.x))))) ≡ d *ℤ
    (((e.x *ℤ (t -ℤ (l *ℤ a.y))) -ℤ (e.y *ℤ (s -ℤ (l *ℤ a.x)))) +ℤ (((pos 0 -ℤ e.x) *ℤ (v -ℤ (l *ℤ b.y))) -ℤ ((pos 0 -ℤ e.y) *ℤ (u -ℤ (l *ℤ b.x)))))
apart e a b l d x y s t u v p q = multiplied ∙ (rw (← p, ← q) collected)
  where
    multiplied : l *ℤ ((e.x *ℤ (y -ℤ (d *ℤ (a.y -ℤ b.y)))) -ℤ (e.y *ℤ (x -ℤ (d *ℤ (a.x -ℤ b.x))))) ≡ (e.x *ℤ ((l *ℤ y) -ℤ (l *ℤ (d *ℤ (a.y -ℤ b.y)))))
        -ℤ (e.y *ℤ ((l *ℤ x) -ℤ (l *ℤ (d *ℤ (a.x -ℤ b.x)))))
    multiplied =
        same (times (var l) (minus (times (var e.x) (minus (var y) (times (var d) (minus (var a.y) (var b.y)))))
        (times (var e.y) (minus (var x) (times (var d) (minus (var a.x) (var b.x)))))))
        (minus (times (var e.x) (minus (times (var l) (var y)) (times (var l) (times (var d) (minus (var a.y) (var b.y))))))
        (times (var e.y) (minus (times (var l) (var x)) (times (var l) (times (var d) (minus (var a.x) (var b.x))))))) (omega arith)

    collected : (e.x *ℤ ((d *ℤ (t -ℤ v)) -ℤ (l *ℤ (d *ℤ (a.y -ℤ b.y))))) -ℤ (e.y *ℤ ((d *ℤ (s -ℤ u)) -ℤ (l *ℤ (d *ℤ (a.x -ℤ b.x))))) ≡ d *ℤ
        (((e.x *ℤ (t -ℤ (l *ℤ a.y))) -ℤ (e.y *ℤ (s -ℤ (l *ℤ a.x)))) +ℤ
        (((pos 0 -ℤ e.x) *ℤ (v -ℤ (l *ℤ b.y))) -ℤ ((pos 0 -ℤ e.y) *ℤ (u -ℤ (l *ℤ b.x)))))
    collected =
        same (minus (times (var e.x) (minus (times (var d) (minus (var t) (var v))) (times (var l) (times (var d) (minus (var a.y) (var b.y))))))
        (times (var e.y) (minus (times (var d) (minus (var s) (var u))) (times (var l) (times (var d) (minus (var a.x) (var b.x)))))))
        (times (var d) (plus (minus (times (var e.x) (minus (var t) (times (var l) (var a.y))))
        (times (var e.y) (minus (var s) (times (var l) (var a.x)))))
        (minus (times (minus (var (pos 0)) (var e.x)) (minus (var v) (times (var l) (var b.y))))
        (times (minus (var (pos 0)) (var e.y)) (minus (var u) (times (var l) (var b.x))))))) (omega arith)

-- where the body meets the obstacle, the point lies to the left of every line that has the obstacle to its left and the body to its right
pub meets_left : (e a b : Vertex) (body : List Vertex) (q : Rational) (obstacle : List Vertex) → Meets 0 body q obstacle
    → ((i : ℕ) → i < length obstacle → pos 0 ≤ℤ cross e (from_to a (corner_at obstacle i)))
    → ((i : ℕ) → i < length body → pos 0 ≤ℤ cross (turned_back e) (from_to b (corner_at body i))) → pos 0 ≤ℤ cross e (out_to (difference a b) q)
meets_left e a b body q obstacle meets on_left on_right =
    let m = SharesPoint-meets body obstacle q meets in
    let first = rw m.obstacle_total at (left_sum e a m.on_obstacle obstacle m.obstacle_corners on_left) in
    let second = rw m.body_total at (left_sum (turned_back e) b m.on_body body m.body_corners on_right) in
    let d = pos q.over in
    let l = pos m.total in
    let some : pos 0 <ℤ l = let w = m.some_weight in omega (arith, ints) in
    let over : pos 0 ≤ℤ d = omega (arith, ints) in
    let o = weighted (λ v. v.x) m.on_obstacle obstacle in
    let p = weighted (λ v. v.y) m.on_obstacle obstacle in
    let r = weighted (λ v. v.x) m.on_body body in
    let s = weighted (λ v. v.y) m.on_body body in
    not_negative_factor l (cross e (out_to (difference a b) q)) some
    (rw (apart e a b l d q.x q.y o p r s m.horizontal m.vertical) (mul-not_negative d _ over (omega (arith, ints))))

same_sum : (d a b c o p r k l m u v w : ℤ) → a ≡ o -ℤ k → b ≡ p -ℤ l → c ≡ r -ℤ m
    → d *ℤ ((((u *ℤ o) +ℤ (v *ℤ p)) +ℤ (w *ℤ r)) -ℤ (((u *ℤ k) +ℤ (v *ℤ l)) +ℤ (w *ℤ m))) ≡ d *ℤ (((u *ℤ a) +ℤ (v *ℤ b)) +ℤ (w *ℤ c))
same_sum d a b c o p r k l m u v w e f g =
    rw (e, f, g) (same (times (var d)
    (minus (plus (plus (times (var u) (var o)) (times (var v) (var p))) (times (var w) (var r)))
    (plus (plus (times (var u) (var k)) (times (var v) (var l))) (times (var w) (var m)))))
    (times (var d) (plus (plus (times (var u) (minus (var o) (var k))) (times (var v) (minus (var p) (var l))))
    (times (var w) (minus (var r) (var m))))) (omega arith))

-- the corner is one of the obstacle's less one of the body's
pub record IsDifference (body obstacle : List Vertex) (z : Vertex) : Type 0 where
  pub on_obstacle : ℕ
  pub on_body : ℕ
  pub within_obstacle : on_obstacle < length obstacle
  pub within_body : on_body < length body
  pub horizontal : z.x ≡ (corner_at obstacle on_obstacle).x -ℤ (corner_at body on_body).x
  pub vertical : z.y ≡ (corner_at obstacle on_obstacle).y -ℤ (corner_at body on_body).y

-- a mean of differences is a difference of means
pub Meets-mean : (body obstacle : List Vertex) (a b c : Vertex) (q : Rational) → IsMeanOf a b c q → IsDifference body obstacle a
    → IsDifference body obstacle b → IsDifference body obstacle c → Meets 0 body q obstacle
Meets-mean body obstacle a b c q m f g h =
    let u = m.first in
    let v = m.second in
    let w = m.third in
    let above = weights obstacle f.on_obstacle g.on_obstacle h.on_obstacle u v w f.within_obstacle g.within_obstacle h.within_obstacle in
    let below = weights body f.on_body g.on_body h.on_body u v w f.within_body g.within_body h.within_body in
    Meets-shares_point 0 body obstacle q (record {
      total = u + v + w;
      on_obstacle = above.on;
      on_body = below.on;
      some_weight = m.some_weight;
      obstacle_corners = above.corners_number;
      body_corners = below.corners_number;
      obstacle_total = above.total;
      body_total = below.total;
      horizontal = rw (above.sums (λ t. t.x), below.sums (λ t. t.x))
          (same_sum (pos q.over) a.x b.x c.x (corner_at obstacle f.on_obstacle).x (corner_at obstacle g.on_obstacle).x
          (corner_at obstacle h.on_obstacle).x (corner_at body f.on_body).x (corner_at body g.on_body).x (corner_at body h.on_body).x (pos u) (pos v)
          (pos w) f.horizontal g.horizontal h.horizontal ∙ m.horizontal);
      vertical = rw (above.sums (λ t. t.y), below.sums (λ t. t.y))
          (same_sum (pos q.over) a.y b.y c.y (corner_at obstacle f.on_obstacle).y (corner_at obstacle g.on_obstacle).y
          (corner_at obstacle h.on_obstacle).y (corner_at body f.on_body).y (corner_at body g.on_body).y (corner_at body h.on_body).y (pos u) (pos v)
          (pos w) f.vertical g.vertical h.vertical ∙ m.vertical);
    })
