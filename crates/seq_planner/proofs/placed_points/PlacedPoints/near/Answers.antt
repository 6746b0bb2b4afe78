use Rattle.seq_planner.proofs.Words.{◌≡◌, ◌*◌, ◌<◌, [], ◌∷◌, ◌++◌, length, get_or, ap, sym, ◌∙◌, arith, squared_distance, Point}
use Rattle.seq_planner.proofs.ScannedLists.{near_more_inside, near_more_outside, near-all, listed_near-zero, listed_near-above}
use Rattle.seq_planner.proofs.placed_points.PlacedPoints.near.Goals as goal
use Rattle.seq_planner.proofs.placed_points.PlacedPoints.near.Goals.{then-squared_distance-most+in_ok-push, else-squared_distance-most}

pub returns-then-radius-eq0 : goal.returns-then-radius-eq0
returns-then-radius-eq0 c = λ points h. c.clear.ensures.items ∙ sym (listed_near-zero points c.args.point c.args.radius c.if-radius-eq0.true)

pub loop-index-preserved : goal.loop-index-preserved
loop-index-preserved c = λ points h. (
    let placed = c.args.self.now in
    let l = c.loop-index in
    let same = c.deref-other-items.ensures.value in
    let below : l.index < length placed.points.items = omega (arith, c.loop-index-test.true, ap length same) in
    let origin : Point = record { x = 0; y = 0 } in
    let here : c.squared_distance.result ≡ squared_distance (get_or placed.points.items l.index origin) c.args.point =
    c.squared_distance.ensures.value ∙ ap (λ ps. squared_distance (get_or ps l.index origin) c.args.point) same in
    let most : c.from.result * c.from-2.result ≡ c.args.radius * c.args.radius =
    ap (λ r. r * c.from-2.result) c.from.ensures ∙ ap (λ r. c.args.radius * r) c.from-2.ensures in
    elim c.if-squared_distance-most.branch [
      | then-squared_distance-most+in_ok-push w ↦ (
          rw w.found-is (w.in_ok-push.ensures.items ∙ ap (λ found. found ++ w.index.result.now ∷ []) (l.invariant points h)
          ∙ sym (near_more_inside points placed c.args.point c.args.radius l.index origin h below w.index.result.now w.index.ensures
          (omega (arith, w.if-squared_distance-most.true, here, most)))))
      | else-squared_distance-most w ↦ (
          rw w.found-is (l.invariant points h
          ∙ sym (near_more_outside points placed c.args.point c.args.radius l.index origin h below
          (omega (arith, w.if-squared_distance-most.false, here, most)))))
    ])

pub returns : goal.returns
returns c = λ points h.
    c.loop-index.invariant points h
    ∙ near-all points c.args.self.now c.args.point c.args.radius c.loop-index.index h
    (omega (arith, c.loop-index-test.false, ap length c.deref-other-items.ensures.value))
    ∙ sym (listed_near-above points c.args.point c.args.radius (omega (arith, c.if-radius-eq0.false)))
