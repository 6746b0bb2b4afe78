use Rattle.obstacle_boxes.proofs.boxes.BoxesClearing.clear.Given as goal

abbrev pub ghosts-tests_by : goal.ghosts-tests_by
ghosts-tests_by a = record { name = a.blank.name; parts = a.blank.parts }
