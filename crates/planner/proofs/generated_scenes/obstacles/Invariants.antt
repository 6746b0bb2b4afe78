use Rattle.planner.proofs.Words.{◌≡◌, map, range_with_len, generated_obstacle}
use Rattle.planner.proofs.generated_scenes.obstacles.Given as goal

abbrev pub invariant-loop-cell : goal.invariant-loop-cell
invariant-loop-cell l = l.obstacles.items ≡ map (generated_obstacle l.number) (range_with_len 0 l.cell)
