-- A body that is widened by a clearance meets without it exactly what the body meets with it.
use Rattle.convex_sets.proofs.Words.{◌≡◌, ℕ, suc, ◌+◌, ◌*◌, ◌<◌, ◌≤◌, List, [], ◌∷◌, length, map, true, refl, sym, ap, subst, ◌∙◌, arith, ℤ, pos, ◌+ℤ◌, ◌-ℤ◌}
use Rattle.convex_sets.proofs.Words.{◌*ℤ◌, ◌≤ℤ◌, sum, list_all, mul-pos, ints, LEAST_BODY_COORDINATE, LEAST_SUMMAND_COORDINATE, MOST_BODY_COORDINATE}
use Rattle.convex_sets.proofs.Words.{MOST_CLEARANCE, MOST_SUMMAND_COORDINATE, Vertex, corner_at, next_corner, is_corner_between, IsInside, IsWithin, Meets}
use Rattle.convex_sets.proofs.Words.{weighted, Rational, IsZoneOf, SharesPoint-meets, Meets-shares_point, var, plus, minus, times, same, true_at, true_of_all}
use Rattle.convex_sets.proofs.Words.{length-map, cross, from_to, both, IsMerged, IsOutlineOf, IsSum, IsWidenedBy, square}
use Rattle.convex_sets.proofs.ConvexPolygons.{IsConvex-from_test}
use Rattle.convex_sets.proofs.Corners.{within_of, of_within}
use Rattle.convex_sets.proofs.Fans.{fan, out_to}
use Rattle.convex_sets.proofs.Hulls.{left_sum, sum-cons, bump, length-bump, sum-bump, weighted-bump}
use Rattle.convex_sets.proofs.Hulls.{zeros, length-zeros, sum-zeros, weighted-zeros, weights}
use Rattle.convex_sets.proofs.MergedSides.{first_left, second_left}
use Rattle.convex_sets.proofs.Signs.{mul-not_negative}
use Rattle.convex_sets.proofs.Squares.{square_within, between_corners}

-- a corner that is no further than the clearance from one of the body's
record IsNear (clearance : ℕ) (body : List Vertex) (z : Vertex) : Type 0 where
  on_body : ℕ
  within : on_body < length body
  horizontal : IsWithin clearance z.x (corner_at body on_body).x
  vertical : IsWithin clearance z.y (corner_at body on_body).y

IsNear-sum : (clearance : ℕ) (body a b : List Vertex) (z : Vertex) → IsOutlineOf (square clearance) a → IsOutlineOf body b → IsSum a b z
    → IsNear clearance body z
IsNear-sum clearance body a b z first second s =
    let f = first.from s.first s.within_first in
    let g = second.from s.second s.within_second in
    let w = square_within clearance f.0 f.1 in
    let is : z ≡ both (corner_at (square clearance) f.0) (corner_at body g.0) = s.is ∙ rw (f.2, g.2) in
    let across = ap (λ v. v.x) is in
    let up = ap (λ v. v.y) is in
    record {
      on_body = g.0;
      within = g.1;
      horizontal = record { lowest = omega (arith, ints); highest = omega (arith, ints) };
      vertical = record { lowest = omega (arith, ints); highest = omega (arith, ints) };
    }

-- ---- what the wider body meets

near_times : (w distance : ℕ) (a b : ℤ) → IsWithin distance a b → IsWithin (distance * w) (pos w *ℤ a) (pos w *ℤ b)
near_times w distance a b h =
    let above = mul-not_negative (pos w) (a -ℤ (b -ℤ pos distance)) (omega (arith, ints)) (omega (arith, ints)) in
    let below = mul-not_negative (pos w) ((b +ℤ pos distance) -ℤ a) (omega (arith, ints)) (omega (arith, ints)) in
    record { lowest = omega (arith, ints, rw up_is at above); highest = omega (arith, ints, rw down_is at below) }
  where
    up_is : pos w *ℤ (a -ℤ (b -ℤ pos distance)) ≡ (pos w *ℤ a) -ℤ ((pos w *ℤ b) -ℤ pos (distance * w))
    up_is =
        same (times (var (pos w)) (minus (var a) (minus (var b) (var (pos distance)))))
        (minus (times (var (pos w)) (var a)) (minus (times (var (pos w)) (var b)) (var (pos (distance * w))))) (omega arith)

    down_is : pos w *ℤ ((b +ℤ pos distance) -ℤ a) ≡ ((pos w *ℤ b) +ℤ pos (distance * w)) -ℤ (pos w *ℤ a)
    down_is =
        same (times (var (pos w)) (minus (plus (var b) (var (pos distance))) (var a)))
        (minus (plus (times (var (pos w)) (var b)) (var (pos (distance * w)))) (times (var (pos w)) (var a))) (omega arith)

-- weights on a body's corners whose mean is near that of corners near the body
record NearWeights (clearance : ℕ) (body corners : List Vertex) (ws : List ℕ) : Type 0 where
  on : List ℕ
  corners_number : length on ≡ length body
  total : sum on ≡ sum ws
  horizontal : IsWithin (clearance * sum ws) (weighted (λ v. v.x) ws corners) (weighted (λ v. v.x) on body)
  vertical : IsWithin (clearance * sum ws) (weighted (λ v. v.y) ws corners) (weighted (λ v. v.y) on body)

within_more : (clearance w s t : ℕ) (a b x y z : ℤ) → t ≡ w + s → z ≡ y +ℤ b → IsWithin (clearance * w) a b → IsWithin (clearance * s) x y
    → IsWithin (clearance * t) (a +ℤ x) z
within_more clearance w s t a b x y z e f g h =
    let more : clearance * t ≡ clearance * w + clearance * s = rw e (omega arith) in
    record { lowest = omega (arith, ints); highest = omega (arith, ints) }

near_weights : (clearance : ℕ) (body corners : List Vertex) (ws : List ℕ) → length ws ≡ length corners
    → ((i : ℕ) → i < length corners → IsNear clearance body (corner_at corners i)) → NearWeights clearance body corners ws
near_weights clearance body [] [] l near =
    record {
      on = zeros body;
      corners_number = length-zeros body;
      total = sum-zeros body;
      horizontal = rw (weighted-zeros (λ v. v.x) body) (record { lowest = omega (arith, ints); highest = omega (arith, ints) });
      vertical = rw (weighted-zeros (λ v. v.y) body) (record { lowest = omega (arith, ints); highest = omega (arith, ints) });
    }
near_weights clearance body [] (w ∷ ws) l near = absurd (omega arith)
near_weights clearance body (z ∷ zs) [] l near = absurd (omega arith)
near_weights clearance body (z ∷ zs) (w ∷ ws) l near =
    let rest = near_weights clearance body zs ws (omega arith) (λ i p. near (suc i) (omega arith)) in
    let at = near 0 (omega arith) in
    let k = at.on_body in
    let v = corner_at body k in
    let within : k < length rest.on = let p = at.within in let e = rest.corners_number in omega arith in
    let both_total = sum-cons w ws in
    record {
      on = bump k w rest.on;
      corners_number = length-bump k w rest.on ∙ rest.corners_number;
      total = let e = rest.total in omega (arith, sum-bump k w rest.on within, both_total);
      horizontal = within_more clearance w (sum ws) (sum (w ∷ ws)) (pos w *ℤ z.x) (pos w *ℤ v.x) (weighted (λ t. t.x) ws zs)
          (weighted (λ t. t.x) rest.on body) _ both_total (weighted-bump (λ t. t.x) k w rest.on body rest.corners_number at.within)
          (near_times w clearance z.x v.x at.horizontal) rest.horizontal;
      vertical = within_more clearance w (sum ws) (sum (w ∷ ws)) (pos w *ℤ z.y) (pos w *ℤ v.y) (weighted (λ t. t.y) ws zs)
          (weighted (λ t. t.y) rest.on body) _ both_total (weighted-bump (λ t. t.y) k w rest.on body rest.corners_number at.within)
          (near_times w clearance z.y v.y at.vertical) rest.vertical;
    }

nearer : (clearance d l s : ℕ) (o z b n : ℤ) → s ≡ l → pos d *ℤ (o -ℤ z) ≡ n → IsWithin (clearance * s) z b
    → IsWithin (clearance * d * l) (pos d *ℤ (o -ℤ b)) n
nearer clearance d l s o z b n e f h =
    let far = near_times d (clearance * s) z b h in
    let size : clearance * s * d ≡ clearance * d * l = rw e (omega arith) in
    let moved : (pos d *ℤ (o -ℤ b)) -ℤ (pos d *ℤ (o -ℤ z)) ≡ (pos d *ℤ z) -ℤ (pos d *ℤ b) = same
    (minus (times (var (pos d)) (minus (var o) (var b))) (times (var (pos d)) (minus (var o) (var z))))
    (minus (times (var (pos d)) (var z)) (times (var (pos d)) (var b))) (omega arith) in
    let there = rw f at moved in
    record { lowest = omega (arith, ints, there, size); highest = omega (arith, ints, there, size) }

Meets-nearer : (clearance : ℕ) (body z : List Vertex) (q : Rational) (obstacle : List Vertex)
    → ((i : ℕ) → i < length z → IsNear clearance body (corner_at z i)) → Meets 0 z q obstacle → Meets clearance body q obstacle
Meets-nearer clearance body z q obstacle near meets =
    let m = SharesPoint-meets z obstacle q meets in
    let r = near_weights clearance body z m.on_body m.body_corners near in
    record {
      total = m.total;
      on_obstacle = m.on_obstacle;
      on_body = r.on;
      some_weight = m.some_weight;
      obstacle_corners = m.obstacle_corners;
      body_corners = r.corners_number;
      obstacle_total = m.obstacle_total;
      body_total = r.total ∙ m.body_total;
      horizontal = nearer clearance q.over m.total (sum m.on_body) _ _ _ _ m.body_total m.horizontal r.horizontal;
      vertical = nearer clearance q.over m.total (sum m.on_body) _ _ _ _ m.body_total m.vertical r.vertical;
    }

-- ---- what the body meets with the clearance

sum-scaled : (k s : ℕ) (ws : List ℕ) → sum ws ≡ s → sum (map (λ w. k * w) ws) ≡ k * s
sum-scaled k s [] e = rw (← e) (omega arith)
sum-scaled k s (w ∷ ws) e =
    let whole : s ≡ w + sum ws = omega (arith, e, sum-cons w ws) in
    rw whole (omega (arith, sum-scaled k (sum ws) ws refl, sum-cons (k * w) (map (λ w. k * w) ws)))

weighted-scaled : (f : Vertex → ℤ) (k : ℕ) (ws : List ℕ) (corners : List Vertex)
    → weighted f (map (λ w. k * w) ws) corners ≡ pos k *ℤ weighted f ws corners
weighted-scaled f k [] corners = omega (arith, ints)
weighted-scaled f k (w ∷ ws) [] = omega (arith, ints)
weighted-scaled f k (w ∷ ws) (c ∷ cs) =
    rw (weighted-scaled f k ws cs) (same (plus (times (var (pos (k * w))) (var (f c))) (times (var (pos k)) (var (weighted f ws cs))))
    (times (var (pos k)) (plus (times (var (pos w)) (var (f c))) (var (weighted f ws cs)))) (omega arith))

-- how a mean of the wider body's corners stands to the obstacle
met : (d l t : ℕ) (o g q : ℤ) → pos (d * l) *ℤ g ≡ pos t *ℤ ((pos d *ℤ o) -ℤ (pos l *ℤ q))
    → pos d *ℤ ((pos t *ℤ o) -ℤ (pos l *ℤ g)) ≡ pos (t * l) *ℤ q
met d l t o g q e = apart ∙ (rw e together)
  where
    apart : pos d *ℤ ((pos t *ℤ o) -ℤ (pos l *ℤ g)) ≡ (pos t *ℤ (pos d *ℤ o)) -ℤ (pos (d * l) *ℤ g)
    apart =
        same (times (var (pos d)) (minus (times (var (pos t)) (var o)) (times (var (pos l)) (var g))))
        (minus (times (var (pos t)) (times (var (pos d)) (var o))) (times (var (pos (d * l))) (var g))) (omega arith)

    together : (pos t *ℤ (pos d *ℤ o)) -ℤ (pos t *ℤ ((pos d *ℤ o) -ℤ (pos l *ℤ q))) ≡ pos (t * l) *ℤ q
    together =
        same (minus (times (var (pos t)) (times (var (pos d)) (var o)))
        (times (var (pos t)) (minus (times (var (pos d)) (var o)) (times (var (pos l)) (var q))))) (times (var (pos (t * l))) (var q)) (omega arith)

-- the parts of the vector from a sum of corners: on the square, and on the body
two_parts : (e a b : Vertex) (d l : ℕ) (o p r s x y : ℤ)
    → ((e.x *ℤ (((pos d *ℤ p) -ℤ (pos l *ℤ y)) -ℤ (pos (d * l) *ℤ (a.y +ℤ b.y)))) -ℤ
    (e.y *ℤ (((pos d *ℤ o) -ℤ (pos l *ℤ x)) -ℤ (pos (d * l) *ℤ (a.x +ℤ b.x))))) ≡
    ((e.x *ℤ (((pos d *ℤ (p -ℤ s)) -ℤ (pos l *ℤ y)) -ℤ (pos (d * l) *ℤ a.y))) -ℤ
    (e.y *ℤ (((pos d *ℤ (o -ℤ r)) -ℤ (pos l *ℤ x)) -ℤ (pos (d * l) *ℤ a.x)))) +ℤ
    (pos d *ℤ ((e.x *ℤ (s -ℤ (pos l *ℤ b.y))) -ℤ (e.y *ℤ (r -ℤ (pos l *ℤ b.x)))))
two_parts e a b d l o p r s x y =
    same (minus
    (times (var e.x) (minus (minus (times (var (pos d)) (var p)) (times (var (pos l)) (var y))) (times (var (pos (d * l))) (plus (var a.y) (var b.y)))))
    (times (var e.y) (minus (minus (times (var (pos d)) (var o)) (times (var (pos l)) (var x))) (times (var (pos (d * l))) (plus (var a.x) (var b.x))))))
    (plus
    (minus
    (times (var e.x) (minus (minus (times (var (pos d)) (minus (var p) (var s))) (times (var (pos l)) (var y))) (times (var (pos (d * l))) (var a.y))))
    (times (var e.y) (minus (minus (times (var (pos d)) (minus (var o) (var r))) (times (var (pos l)) (var x))) (times (var (pos (d * l))) (var a.x)))))
    (times (var (pos d))
    (minus (times (var e.x) (minus (var s) (times (var (pos l)) (var b.y)))) (times (var e.y) (minus (var r) (times (var (pos l)) (var b.x)))))))
    (omega arith)

within_zero : (clearance d l : ℕ) (a b : ℤ) → IsWithin (clearance * d * l) a b → IsWithin (clearance * (d * l)) (a -ℤ b) (pos 0)
within_zero clearance d l a b h =
    let size : clearance * d * l ≡ clearance * (d * l) = omega arith in
    record { lowest = omega (arith, ints, size); highest = omega (arith, ints, size) }

-- the wider body z of the outlines a of the square and b of the body
module _ (clearance : ℕ) (body a b z : List Vertex) (first : IsOutlineOf (square clearance) a) (second : IsOutlineOf body b)
    (merged : IsMerged a b z) where
  near : (i : ℕ) → i < length z → IsNear clearance body (corner_at z i)
  near i p = IsNear-sum clearance body a b (corner_at z i) first second (merged.sums i p)

  module _ (q : Rational) (obstacle : List Vertex) (m : Meets clearance body q obstacle) where
    -- the obstacle's mean, seen from q
    seen : Rational
    seen =
        record {
          x = (pos q.over *ℤ weighted (λ v. v.x) m.on_obstacle obstacle) -ℤ (pos m.total *ℤ q.x);
          y = (pos q.over *ℤ weighted (λ v. v.y) m.on_obstacle obstacle) -ℤ (pos m.total *ℤ q.y);
          over = q.over * m.total;
          positive = mul-pos q.positive m.some_weight;
        }

    inside : IsInside z seen
    unfolding seen
    inside i p =
        let e = from_to (corner_at z i) (corner_at z (next_corner (length z) i)) in
        let s = merged.sums i p in
        let on_square = corner_at a s.first in
        let on_body = corner_at b s.second in
        let d = q.over in
        let l = m.total in
        let body_left = rw m.body_total at
        (left_sum e on_body m.on_body body m.body_corners (second_left (square clearance) body a b z first second merged i p)) in
        let square_left = between_corners e on_square clearance (d * l) _ _ (first_left (square clearance) body a b z first second merged i p)
        (within_zero clearance d l _ _ m.horizontal) (within_zero clearance d l _ _ m.vertical) in
        let part = mul-not_negative (pos d) _ (omega (arith, ints)) body_left in
        subst (λ (v : Vertex). pos 0 ≤ℤ cross e (out_to v seen)) (sym s.is)
        (rw (two_parts e on_square on_body d l (weighted (λ v. v.x) m.on_obstacle obstacle) (weighted (λ v. v.y) m.on_obstacle obstacle)
        (weighted (λ v. v.x) m.on_body body) (weighted (λ v. v.y) m.on_body body) q.x q.y) (omega (arith, ints, square_left, part)))

    wider_meets : Meets 0 z q obstacle
    unfolding seen
    wider_meets =
        let f = fan z seen (IsConvex-from_test z merged.convex) inside in
        let k = f.0 in
        let small : suc (suc k) < length z = f.1 in
        let mean = f.2 in
        let on = weights z 0 (suc k) (suc (suc k)) mean.first mean.second mean.third (omega arith) (omega arith) small in
        let l = m.total in
        let t = mean.first + mean.second + mean.third in
        Meets-shares_point 0 z obstacle q (record {
          total = t * l;
          on_obstacle = map (λ w. t * w) m.on_obstacle;
          on_body = map (λ w. l * w) on.on;
          some_weight = mul-pos mean.some_weight m.some_weight;
          obstacle_corners = length-map m.on_obstacle (λ w. t * w) ∙ m.obstacle_corners;
          body_corners = length-map on.on (λ w. l * w) ∙ on.corners_number;
          obstacle_total = sum-scaled t l m.on_obstacle m.obstacle_total;
          body_total = let total = sum-scaled l t on.on on.total in omega (arith, total);
          horizontal = rw (weighted-scaled (λ v. v.x) t m.on_obstacle obstacle, weighted-scaled (λ v. v.x) l on.on z, on.sums (λ v. v.x))
              (met q.over l t _ _ q.x mean.horizontal);
          vertical = rw (weighted-scaled (λ v. v.y) t m.on_obstacle obstacle, weighted-scaled (λ v. v.y) l on.on z, on.sums (λ v. v.y))
              (met q.over l t _ _ q.y mean.vertical);
        })

  pub widened_is : IsWidenedBy clearance body z
  widened_is q obstacle = (wider_meets q obstacle, Meets-nearer clearance body z q obstacle near)

  pub widened_within : list_all (is_corner_between LEAST_BODY_COORDINATE MOST_BODY_COORDINATE) body ≡ true → clearance ≤ MOST_CLEARANCE
      → list_all (is_corner_between LEAST_SUMMAND_COORDINATE MOST_SUMMAND_COORDINATE) z ≡ true
  widened_within h few =
      true_of_all (is_corner_between LEAST_SUMMAND_COORDINATE MOST_SUMMAND_COORDINATE) z (record { x = pos 0; y = pos 0 }) (λ i l.
      let n = near i l in
      let w = within_of LEAST_BODY_COORDINATE MOST_BODY_COORDINATE (corner_at body n.on_body)
      (true_at (is_corner_between LEAST_BODY_COORDINATE MOST_BODY_COORDINATE) body n.on_body (record { x = pos 0; y = pos 0 }) h n.within) in
      of_within LEAST_SUMMAND_COORDINATE MOST_SUMMAND_COORDINATE (corner_at z i)
      (record { left = omega (arith, ints); right = omega (arith, ints); bottom = omega (arith, ints); top = omega (arith, ints) }))

-- the zone of the wider body is that of the body with the clearance
pub zone_of_wider : (clearance : ℕ) (body wider obstacle corners : List Vertex) → IsWidenedBy clearance body wider → IsZoneOf 0 wider obstacle corners
    → IsZoneOf clearance body obstacle corners
zone_of_wider clearance body wider obstacle corners widened zone =
    record {
      exact = λ q.
          let same_points = widened q obstacle in
          let exact = zone.exact q in
          (λ meets. exact.0 (same_points.0 meets), λ inside. same_points.1 (exact.1 inside));
      convex = zone.convex;
      first = zone.first;
    }
