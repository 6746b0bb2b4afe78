use Rattle.std.proofs.Common.{◌∙◌, ap, sym}
use Rattle.shared_tree_tests.proofs.HeldPasses.InformedMarks.{HoldsMark-best, TakesBest-best, informed_here}
use Rattle.shared_tree_tests.proofs.passes.bests.load_best.Goals as goal

pub best-requires-clause-informed : goal.best-requires-clause-informed
best-requires-clause-informed g c =
    informed_here c.args.shared.now c.args.pass.now.view c.requires.holds.belongs.run
    (ap (λ t. t.scene.informed) (sym c.task.ensures) ∙ c.if-not-task.false)

pub returns-clause-holds : goal.returns-clause-holds
returns-clause-holds g c =
    HoldsMark-best c.args.shared.now c.args.mark c.args.pass.now c.best.new.pass c.requires.holds c.best.ensures.view c.best.ensures.goes_on

pub returns-clause-takes : goal.returns-clause-takes
returns-clause-takes g c =
    TakesBest-best c.args.shared.now c.args.mark c.args.pass.now c.best.new.pass c.requires.holds c.best.ensures.view c.best.ensures.goes_on
    c.best.result c.best.ensures.found
