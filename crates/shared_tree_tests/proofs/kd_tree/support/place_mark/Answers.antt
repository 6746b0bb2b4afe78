use Rattle.shared_tree_tests.proofs.SteeredPasses.SteeredMarks.{HangsBelowNearest-placing}
use Rattle.grown_runs.specs.Table.WordNames.Word.{RecordOf}
use Rattle.shared_tree_tests.proofs.kd_tree.support.place_mark.Goals as goal

pub returns-clause-hangs : goal.returns-clause-hangs
returns-clause-hangs c =
    let step = c.place.ensures.goes_on in
    HangsBelowNearest-placing c.args.pass.now.view c.place.new.pass.view step.goes_on.later step.goes_on.was_lawful (λ k. step.others (RecordOf k) (λ h. h))
    c.args.closest c.args.cost c.place.result c.requires.hangs c.place.ensures.placed
