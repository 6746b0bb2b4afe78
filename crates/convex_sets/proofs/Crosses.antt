-- Laws of the cross product of plane vectors.
use Rattle.convex_sets.proofs.Words.{◌≡◌, arith, pos, ◌+ℤ◌, ◌-ℤ◌, ◌*ℤ◌, ◌<ℤ◌, ◌≤ℤ◌, ints, Vertex, cross, from_to, both, Read, var, plus, minus, times, same}
use Rattle.convex_sets.proofs.Signs.{mul-not_negative, not_negative_factor}

abbrev pub cross_is : (u v : Vertex) → Read (cross u v)
cross_is u v = minus (times (var u.x) (var v.y)) (times (var u.y) (var v.x))

-- of the vector from a to b
abbrev pub seen_is : (e a b : Vertex) → Read (cross e (from_to a b))
seen_is e a b = minus (times (var e.x) (minus (var b.y) (var a.y))) (times (var e.y) (minus (var b.x) (var a.x)))

-- of the vectors from a to b and from a to c
abbrev pub turn_is : (a b c : Vertex) → Read (cross (from_to a b) (from_to a c))
turn_is a b c =
    minus (times (minus (var b.x) (var a.x)) (minus (var c.y) (var a.y))) (times (minus (var b.y) (var a.y)) (minus (var c.x) (var a.x)))

-- the three products of four vectors in two pairs
pub exchange : (p q e o : Vertex) → cross p q *ℤ cross e o ≡ (cross e q *ℤ cross p o) +ℤ (cross p e *ℤ cross q o)
exchange p q e o = same (times (cross_is p q) (cross_is e o)) (plus (times (cross_is e q) (cross_is p o)) (times (cross_is p e) (cross_is q o))) (omega arith)

-- a vector by two others
pub exchange_x : (p q e : Vertex) → cross p q *ℤ e.x ≡ (cross e q *ℤ p.x) +ℤ (cross p e *ℤ q.x)
exchange_x p q e = same (times (cross_is p q) (var e.x)) (plus (times (cross_is e q) (var p.x)) (times (cross_is p e) (var q.x))) (omega arith)

pub exchange_y : (p q e : Vertex) → cross p q *ℤ e.y ≡ (cross e q *ℤ p.y) +ℤ (cross p e *ℤ q.y)
exchange_y p q e = same (times (cross_is p q) (var e.y)) (plus (times (cross_is e q) (var p.y)) (times (cross_is p e) (var q.y))) (omega arith)

pub cross_opposite : (u v : Vertex) → cross u v ≡ (pos 0 -ℤ cross v u)
cross_opposite u v = omega (arith, ints)

pub cross_self : (u : Vertex) → cross u u ≡ pos 0
cross_self u = omega (arith, ints)

pub cross-both : (e u v : Vertex) → cross e (both u v) ≡ (cross e u +ℤ cross e v)
cross-both e u v =
    same (minus (times (var e.x) (plus (var u.y) (var v.y))) (times (var e.y) (plus (var u.x) (var v.x)))) (plus (cross_is e u) (cross_is e v)) (omega arith)

pub both-cross : (u v e : Vertex) → cross (both u v) e ≡ (cross u e +ℤ cross v e)
both-cross u v e =
    same (minus (times (plus (var u.x) (var v.x)) (var e.y)) (times (plus (var u.y) (var v.y)) (var e.x))) (plus (cross_is u e) (cross_is v e)) (omega arith)

-- from a by way of b to c
pub cross-by_way : (e a b c : Vertex) → cross e (from_to a c) ≡ (cross e (from_to a b) +ℤ cross e (from_to b c))
cross-by_way e a b c = same (seen_is e a c) (plus (seen_is e a b) (seen_is e b c)) (omega arith)

-- w lies between u and v, so what lies to the left of u and v lies to the left of w
pub between : (u v w x : Vertex) → pos 0 <ℤ cross u v → pos 0 ≤ℤ cross u w → pos 0 ≤ℤ cross w v → pos 0 ≤ℤ cross u x → pos 0 ≤ℤ cross v x → pos 0 ≤ℤ cross w x
between u v w x a b c d e =
    let sum = exchange u v w x in
    let first = mul-not_negative (cross w v) (cross u x) c d in
    let second = mul-not_negative (cross u w) (cross v x) b e in
    not_negative_factor (cross u v) (cross w x) a (rw sum (omega (arith, ints)))
