-- On which side of a line the points of a segment lie: a linear function of the parameter.
use Rattle.swept_check.proofs.Words.{◌≡◌, ℕ, ◌<◌, arith, ℤ, pos, ◌+ℤ◌, ◌-ℤ◌, ◌*ℤ◌, Point, Vertex, orientation, on_the_way, side_of, value_at, corner_of, var}
use Rattle.swept_check.proofs.Words.{plus, minus, times, same}

-- one product of the orientation, at s / d of the way from a to b
product_on_way : (e u a b d s : ℤ) → (e *ℤ (((d *ℤ a) +ℤ (s *ℤ (b -ℤ a))) -ℤ (d *ℤ u)))
    ≡ (d *ℤ (e *ℤ (a -ℤ u))) +ℤ (s *ℤ ((e *ℤ (b -ℤ u)) -ℤ (e *ℤ (a -ℤ u))))
product_on_way e u a b d s =
    same
    (times (var e) (minus (plus (times (var d) (var a)) (times (var s) (minus (var b) (var a)))) (times (var d) (var u))))
    (plus (times (var d) (times (var e) (minus (var a) (var u))))
    (times (var s) (minus (times (var e) (minus (var b) (var u))) (times (var e) (minus (var a) (var u))))))
    (omega arith)

-- the difference of two such values
value_at-difference : (f t g u d s : ℤ) → (((d *ℤ f) +ℤ (s *ℤ (t -ℤ f))) -ℤ ((d *ℤ g) +ℤ (s *ℤ (u -ℤ g))))
    ≡ ((d *ℤ (f -ℤ g)) +ℤ (s *ℤ ((t -ℤ u) -ℤ (f -ℤ g))))
value_at-difference f t g u d s =
    same
    (minus (plus (times (var d) (var f)) (times (var s) (minus (var t) (var f)))) (plus (times (var d) (var g)) (times (var s) (minus (var u) (var g)))))
    (plus (times (var d) (minus (var f) (var g))) (times (var s) (minus (minus (var t) (var u)) (minus (var f) (var g)))))
    (omega arith)

pub side_of-on_the_way : (u v : Vertex) (a b : Point) (s d : ℕ) (p : 0 < d)
    → side_of u v (on_the_way a b s d p) ≡ value_at (orientation u v (corner_of a)) (orientation u v (corner_of b)) s d
side_of-on_the_way u v a b s d p =
    let x : ℤ = v.x -ℤ u.x in
    let y : ℤ = v.y -ℤ u.y in
    rw (product_on_way x u.y (pos a.y) (pos b.y) (pos d) (pos s), product_on_way y u.x (pos a.x) (pos b.x) (pos d) (pos s))
    (value_at-difference (x *ℤ (pos a.y -ℤ u.y)) (x *ℤ (pos b.y -ℤ u.y)) (y *ℤ (pos a.x -ℤ u.x)) (y *ℤ (pos b.x -ℤ u.x)) (pos d) (pos s))
