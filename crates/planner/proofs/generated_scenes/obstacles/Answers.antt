use Rattle.planner.proofs.Words.{◌≡◌, map, ap, arith, refl, ◌∙◌, range_with_len, map-range_with_len_more, generated_obstacle}
use Rattle.planner.proofs.generated_scenes.obstacles.Goals as goal

pub loop-cell-preserved : goal.loop-cell-preserved
loop-cell-preserved c =
    let more = map-range_with_len_more (generated_obstacle c.args.number) 0 c.loop-cell.cell c.loop-cell.cell (omega arith) in
    rw (c.in_ok-push.ensures.items, c.loop-cell.invariant, more, c.in_ok-obstacle.ensures) refl

pub returns : goal.returns
returns c =
    let all : c.loop-cell.cell ≡ 64 = omega (arith, c.loop-cell-test.false) in
    c.from_vec.ensures ∙ c.loop-cell.invariant ∙ ap (λ cells. map (generated_obstacle c.args.number) (range_with_len 0 cells)) all
