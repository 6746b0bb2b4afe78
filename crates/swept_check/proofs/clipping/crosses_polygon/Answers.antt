use Rattle.swept_check.proofs.Words.{◌≡◌, ℕ, ◌<◌, ◌≤◌, length, arith, w64, to_z, of_z, ints, ◌↔◌, IsAdmitted, IsBetweenFractions, corner_of}
use Rattle.swept_check.proofs.CommonParameters.{IsAdmittedAt, IsAdmittedBelow, one_more, crosses_between, not_crossing}
use Rattle.swept_check.proofs.clipping.crosses_polygon.Goals as goal

pub returns-in-None : goal.returns-in-None
returns-in-None c = (
  λ t. cc,
  λ x.
      let from : to_z w64 (of_z w64 c.orientation-from.result) ≡ c.orientation-from.result = omega (arith, ints) in
      let to : to_z w64 (of_z w64 c.orientation-to.result) ≡ c.orientation-to.result = omega (arith, ints) in
      absurd
      (not_crossing c.args.corners.now c.args.a c.args.b c.corner_of-first.result c.corner_of-last.result c.loop-i.i c.next_corner-next.result
      c.orientation-from.result c.orientation-to.result c.corner_of-first.ensures c.corner_of-last.ensures c.next_corner-next.ensures.value
      (omega arith) c.orientation-from.ensures c.orientation-to.ensures (rw (from, to) at c.in-None.ensures) x),
)

pub loop-i-preserved : goal.loop-i-preserved
loop-i-preserved c s d p l =
    let first = c.corner_of-first.result in
    let last = c.corner_of-last.result in
    let from : to_z w64 (of_z w64 c.orientation-from.result) ≡ c.orientation-from.result = omega (arith, ints) in
    let to : to_z w64 (of_z w64 c.orientation-to.result) ≡ c.orientation-to.result = omega (arith, ints) in
    let clip = rw (from, to) at (c.in-Some.ensures s d p l) in
    let old = c.loop-i.invariant s d p l in
    let more = one_more c.args.corners.now first last c.loop-i.i s d in
    let here : IsAdmitted c.orientation-from.result c.orientation-to.result s d ↔ IsAdmittedAt c.args.corners.now first last c.loop-i.i s d
    = rw (c.orientation-from.ensures, c.orientation-to.ensures, c.next_corner-next.ensures.value) (λ x. x, λ x. x) in
    (λ h. (let parts = clip.0 h in more.1 (old.0 parts.0, here.0 parts.1)), λ h. (let parts = more.0 h in clip.1 (old.1 parts.0, here.1 parts.1)))

pub returns : goal.returns
returns c =
    let part = c.loop-i.part in
    let all : c.loop-i.i ≡ length c.args.corners.now = omega arith in
    let left : (s d : ℕ) → 0 < d → s ≤ d
    → IsBetweenFractions part.entry part.exit s d ↔ IsAdmittedBelow c.args.corners.now (corner_of c.args.a) (corner_of c.args.b) (length c.args.corners.now) s d
    = rw (all, c.corner_of-first.ensures, c.corner_of-last.ensures) at c.loop-i.invariant in
    let exact = crosses_between c.args.corners.now c.args.a c.args.b part.entry part.exit left in
    (λ t. exact.0 (c.is_at_most.ensures.0 t), λ x. c.is_at_most.ensures.1 (exact.1 x))
