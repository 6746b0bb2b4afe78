use Rattle.scene_text.proofs.Words.{◌≡◌, ◌++◌, map, take, string_bytes, flat_map, obstacle_statement, line}
use Rattle.scene_text.proofs.scene_writer.push_obstacles.Given as goal

abbrev pub invariant-loop-obstacle : goal.invariant-loop-obstacle
invariant-loop-obstacle l =
    string_bytes l.text ≡ string_bytes l.initial.text ++ flat_map line (map obstacle_statement (take l.obstacle-index l.obstacles))
