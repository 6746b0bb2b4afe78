use Rattle.scene_text.proofs.Words.{◌≡◌, ◌++◌, map, take, string_bytes, flat_map, mark_statement, line}
use Rattle.scene_text.proofs.scene_writer.push_marks.Given as goal

abbrev pub invariant-loop-mark : goal.invariant-loop-mark
invariant-loop-mark l =
    string_bytes l.text ≡ string_bytes l.initial.text ++ flat_map line (map mark_statement (take l.mark-index l.marks))
