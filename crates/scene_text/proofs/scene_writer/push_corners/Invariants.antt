use Rattle.scene_text.proofs.Words.{◌≡◌, ◌∷◌, ◌++◌, take, string_bytes, signed_decimal, flat_map, corner_numbers}
use Rattle.scene_text.proofs.scene_writer.push_corners.Given as goal

abbrev pub invariant-loop-corner : goal.invariant-loop-corner
invariant-loop-corner l =
    string_bytes l.text ≡ string_bytes l.initial.text ++ flat_map (λ z. 32 ∷ signed_decimal z) (corner_numbers (take l.corner-index l.corners))
