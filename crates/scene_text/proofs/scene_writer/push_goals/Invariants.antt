use Rattle.scene_text.proofs.Words.{◌≡◌, ◌++◌, map, take, string_bytes, flat_map, goal_statement, line}
use Rattle.scene_text.proofs.scene_writer.push_goals.Given as goal

abbrev pub invariant-loop-goal : goal.invariant-loop-goal
invariant-loop-goal l =
    string_bytes l.text ≡ string_bytes l.initial.text ++ flat_map line (map goal_statement (take l.goal-index l.goals))
