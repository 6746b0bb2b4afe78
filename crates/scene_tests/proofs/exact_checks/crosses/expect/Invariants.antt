use Rattle.scene_tests.proofs.exact_checks.crosses.expect.Given as goal

abbrev pub ghosts-is_crossed : goal.ghosts-is_crossed
ghosts-is_crossed g a = record { name = a.blank.name; parts = a.blank.parts }
