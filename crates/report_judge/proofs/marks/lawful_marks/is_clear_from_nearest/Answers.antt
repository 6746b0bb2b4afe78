use Rattle.report_judge.proofs.Words.{sym, subst, ◌↔◌, IsTrue, Clear}
use Rattle.report_judge.proofs.Laws.ListedNodes.{none-present, point_of-listed}
use Rattle.report_judge.proofs.marks.lawful_marks.is_clear_from_nearest.Goals as goal

pub returns-in-Some : goal.returns-in-Some
returns-in-Some g c =
    subst (λ a. IsTrue c.clear.result ↔ Clear (g.C.Clearing.space c.args.hall.now) a c.args.p)
    (sym (point_of-listed c.args.judged.now.knots.now c.args.judged.now.records.now c.args.entry.nearest c.in-Some.nearest (sym c.in-Some.ensures)))
    c.clear.ensures

pub returns-in-None : goal.returns-in-None
returns-in-None g c =
    absurd (none-present c.args.judged.now.knots.now c.args.judged.now.records.now c.args.entry.nearest (sym c.in-None.ensures) c.requires.nearest)
