use Rattle.grown_runs.specs.Table.WordNames.Word.{RecordOf}
use Rattle.shared_tree_tests.proofs.SteeredPasses.SteeredMarks.{SteersFrom-kept}
use Rattle.shared_tree_tests.proofs.kd_tree.place.expect_free.Goals as goal

pub returns-clause-steers : goal.returns-clause-steers
returns-clause-steers g c =
    let step = c.find-found.ensures.looks in
    SteersFrom-kept c.args.pass.now.view c.find-found.new.pass.view step.looks.goes_on.later step.looks.goes_on.was_lawful
    (λ k. step.looks.others (RecordOf k) (λ h. h)) c.args.steering.nearest c.requires.steers step.kept.hand
