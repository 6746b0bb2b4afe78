use Rattle.grown_runs.proofs.Words.{arith, ◌∙◌, length-marks, words_of_grown, sizes_of}
use Rattle.grown_runs.proofs.Runs.GrownPoints.{node_count-words}
use Rattle.grown_runs.proofs.grown.Grown.count.Goals as goal

pub overflow_cast-result : goal.overflow_cast-result
overflow_cast-result c =
    let grown = c.args.self.now in
    omega (
      arith,
      c.count.ensures ∙ grown.hold_run.counted,
      node_count-words (sizes_of grown.task) (words_of_grown grown),
      length-marks grown.task,
    )

pub returns : goal.returns
returns c = c.count.ensures ∙ c.args.self.now.hold_run.counted
