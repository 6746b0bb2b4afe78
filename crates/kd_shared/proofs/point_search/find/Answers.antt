use Rattle.kd_shared.proofs.Words.{sym, ◌∙◌, same_point-false}
use Rattle.kd_shared.proofs.Finding.{IsFree-before, IsFree-now}
use Rattle.kd_shared.proofs.point_search.find.Goals as goal

pub returns-clause-missed : goal.returns-clause-missed
returns-clause-missed c =
    let apart = same_point-false c.walk-stop.result.here c.args.p (sym c.eq.ensures ∙ c.if-eq.false) in
    IsFree-before c.args.pass.now.view c.walk-stop.new.looks.view c.args.p c.walk-stop.result c.walk-stop.ensures.looks.looks c.walk-stop.ensures.stops
    apart (c.walk-stop.ensures.empty apart)

pub returns-clause-free : goal.returns-clause-free
returns-clause-free c =
    let apart = same_point-false c.walk-stop.result.here c.args.p (sym c.eq.ensures ∙ c.if-eq.false) in
    IsFree-now c.args.pass.now.view c.walk-stop.new.looks.view c.args.p c.walk-stop.result c.walk-stop.ensures.looks.looks c.walk-stop.ensures.stops
    apart (c.walk-stop.ensures.none apart)
