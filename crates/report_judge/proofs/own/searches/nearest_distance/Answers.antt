use Rattle.report_judge.proofs.Words.{sym, ap, ◌∙◌, squared_distance}
use Rattle.report_judge.proofs.Laws.ListedNodes.{none-present, point_of-listed}
use Rattle.report_judge.proofs.own.searches.nearest_distance.Goals as goal

pub returns-in-Some : goal.returns-in-Some
returns-in-Some c =
    c.squared_distance.ensures.value
    ∙ ap (λ q. squared_distance q c.args.mark)
    (sym (point_of-listed c.args.judged.now.knots.now c.args.judged.now.records.now c.args.entry.nearest c.in-Some.nearest (sym c.in-Some.ensures)))

pub returns-in-None : goal.returns-in-None
returns-in-None c =
    absurd (none-present c.args.judged.now.knots.now c.args.judged.now.records.now c.args.entry.nearest (sym c.knot_at.ensures ∙ c.in-None.is)
    c.requires.nearest)
