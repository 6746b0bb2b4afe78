use Rattle.plan_words.proofs.shared.Shared.write_point.Given as goal

abbrev pub ghosts-store_point : goal.ghosts-store_point
ghosts-store_point a = record { nearest = a.nearest; point = a.p }
