use Rattle.std.proofs.Common.{◌≡◌, map}
use Rattle.std.specs.List.{range_with_len}
use Rattle.plan_model.specs.Scenes.MarkPoints.{drawn_mark}
use Rattle.strip_sampler.proofs.mark_points.drawn_points.Given as goal

abbrev pub invariant-loop-k : goal.invariant-loop-k
invariant-loop-k l = l.points.items ≡ map (drawn_mark l.scene) (range_with_len 0 l.k)
