use Rattle.grown_runs.proofs.Table.WordKinds.{AreBehind-refl, AreBehind-trans}
use Rattle.grown_runs.proofs.word_laws.words_go_on.Goals as goal

pub returns : goal.returns
returns c = record { stay = AreBehind-refl; go_on = AreBehind-trans }
