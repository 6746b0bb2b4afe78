use Rattle.grown_runs.proofs.Words.{arith, length-marks}
use Rattle.grown_runs.proofs.word_places.WordPlaces.of.Goals as goal

pub invariant_of-result-clause-few_marks : goal.invariant_of-result-clause-few_marks
invariant_of-result-clause-few_marks c = omega (arith, c.len.ensures, length-marks c.args.task.now)

pub returns : goal.returns
returns c = λ t. record { strips = c.args.task.now.scene.strips; marks = c.len.ensures t }
