-- No way from the start of a tree to a node costs less than the straight line between them.
use Rattle.twin_trees.proofs.Words.{◌≡◌, ℕ, zero, suc, ◌≤◌, arith, ap, refl, abs_diff, cost_of, squared_distance, Point, KeepsOrder, Setup, IsPresent, point_of}
use Rattle.twin_trees.proofs.Words.{TreeState, sum_in, cost_of-swap, point_of-stands, KeepsOrder-falls, cost_of-short, sum_in-parent, cost_of-triangle}

-- an edge without length costs nothing
no_cost : (p : Point) → cost_of p p ≤ 0
no_cost p =
    let across : abs_diff p.x p.x ≡ 0 = omega arith in
    let up : abs_diff p.y p.y ≡ 0 = omega arith in
    let none : squared_distance p p ≡ 0 = rw (across, up) refl in
    omega (arith, cost_of-short p p 0 (omega (arith, none)))

module _ (setup : Setup) (state : TreeState) (order : KeepsOrder setup state) where
  line_below : (most n : ℕ) → IsPresent state.points n → state.cost n ≤ most → cost_of (point_of state.points n) setup.start ≤ sum_in state n
  line_below most zero h l =
      let start = point_of-stands state.points 0 setup.start order.start_stands in
      omega (arith, ap (λ p. cost_of p setup.start) start, no_cost setup.start)
  line_below zero (suc n) h l = absurd (omega (arith, KeepsOrder-falls setup state order n h, l))
  line_below (suc most) (suc n) h l =
      let above = (order.hangs n h).present in
      let rest = line_below most (state.parent (suc n)) above (omega (arith, KeepsOrder-falls setup state order n h, l)) in
      let triangle = cost_of-triangle (point_of state.points (suc n)) (point_of state.points (state.parent (suc n))) setup.start in
      let swap = cost_of-swap (point_of state.points (suc n)) (point_of state.points (state.parent (suc n))) in
      omega (arith, rest, triangle, swap, sum_in-parent setup state order n h)

  -- the line from a node to the start
  pub line-le_sum : (n : ℕ) → IsPresent state.points n → cost_of (point_of state.points n) setup.start ≤ sum_in state n
  line-le_sum n h = line_below (state.cost n) n h (omega arith)
