use Rattle.seq_planner.proofs.Words.{◌≡◌, ◌+◌, ◌<◌, ◌≤◌, length, get_or, sym, ap, ◌∙◌, rules, subst, arith, get_or_read, IsNearest}
use Rattle.seq_planner.proofs.LeastIndices.{IsLeastIndex, IsLeastIndex-keeps, IsLeastIndex-takes}
use Rattle.seq_planner.proofs.ScannedLists.{IsNearest-all, distance_at}
use Rattle.seq_planner.proofs.placed_points.PlacedPoints.nearest.Goals as goal
use Rattle.seq_planner.proofs.placed_points.PlacedPoints.nearest.Goals.{then-distance-least, else-distance-least}

pub returns : goal.returns
returns c = λ points h. (
    let placed = c.args.self.now in
    let l = c.loop-index in
    let all : length placed.points.items ≤ l.index = omega (arith, c.loop-index-test.false, ap length c.deref-point-items.ensures.value) in
    let below : l.best < length placed.numbers.items = omega (arith, l.invariant.scanned.member, c.requires.numbered) in
    let number : c.index-2.result.now ≡ get_or placed.numbers.items l.best 0 =
    get_or_read placed.numbers.items l.best c.index-2.result.now below c.index-2.ensures 0 in
    subst (IsNearest points c.args.mark) (sym number) (IsNearest-all points placed c.args.mark l.index l.best l.least h l.invariant all))

pub loop-index-preserved : goal.loop-index-preserved
loop-index-preserved c =
    let ps = c.args.self.now.points.items in
    let mark = c.args.mark in
    let l = c.loop-index in
    let here : c.squared_distance-distance.result ≡ distance_at ps mark l.index = search rules in
    let below : l.index < length ps = omega (arith, c.loop-index-test.true, ap length c.deref-point-items.ensures.value) in
    let key = distance_at ps mark in
    elim c.if-distance-least.branch [
      | then-distance-least w ↦
          subst (λ b. IsLeastIndex key (length ps) (l.index + 1) b c.if-distance-least.least) (sym w.best-is)
          (IsLeastIndex-takes key (length ps) l.index l.best l.least c.if-distance-least.least l.invariant below
          (omega (arith, w.least-is, w.if-distance-least)) (w.least-is ∙ here))
      | else-distance-least w ↦
          subst (λ b. IsLeastIndex key (length ps) (l.index + 1) b c.if-distance-least.least) (sym w.best-is)
          (IsLeastIndex-keeps key (length ps) l.index l.best l.least c.if-distance-least.least l.invariant
          (omega (arith, here, w.if-distance-least)) w.least-is)
    ]
