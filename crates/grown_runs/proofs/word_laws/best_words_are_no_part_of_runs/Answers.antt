use Rattle.grown_runs.specs.Runs.GrownWords.{sizes_of}
use Rattle.grown_runs.proofs.Runs.HeldBests.{HoldRun-best, state-best}
use Rattle.grown_runs.proofs.word_laws.best_words_are_no_part_of_runs.Goals as goal

pub returns-clause-run : goal.returns-clause-run
returns-clause-run c = λ task limit word words after held writes. HoldRun-best words after word writes task limit held

pub returns-clause-state : goal.returns-clause-state
returns-clause-state c = λ task word words after writes. state-best words after word writes (sizes_of task)
