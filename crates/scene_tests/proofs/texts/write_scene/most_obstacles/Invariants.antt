use Rattle.std.proofs.Common.{◌≡◌, ◌≤◌, true, length}
use Rattle.std.specs.List.{list_all}
use Rattle.plan_model.specs.Scenes.Limits.{is_obstacle}
use Rattle.scene_tests.proofs.texts.write_scene.most_obstacles.Given as goal

abbrev pub invariant-loop-number : goal.invariant-loop-number
invariant-loop-number l = (length l.obstacles.items ≤ l._number) × (list_all (is_obstacle 2) l.obstacles.items ≡ true)
