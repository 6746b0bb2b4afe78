use Rattle.report_judge.proofs.Words.{◌↔◌, sym, subst, IsTrue, run_of, IsNearestOfEarlier, KeepsNear}
use Rattle.report_judge.proofs.Workers.OwnNodeLaws.{same_point}
use Rattle.report_judge.proofs.own.searches.is_nearest_and_keeps_near.Goals as goal

pub returns-then-distance-from : goal.returns-then-distance-from
returns-then-distance-from g c =
    let run = run_of c.args.judged.now in
    subst
    (λ q.
    IsTrue c.is_least_near.result
    ↔ (IsNearestOfEarlier run c.args.entry c.args.mark × KeepsNear (g.C.Clearing.space c.args.hall.now) run c.args.entry q c.args.radius))
    (sym (same_point c.args.p c.args.mark c.eq.result c.eq.ensures c.if-eq.true)) c.is_least_near.ensures

pub returns : goal.returns
returns g c = (λ h. (c.is_nearest.ensures.0 c.if-not-is_nearest.false, c.keeps_near.ensures.0 h), λ both. c.keeps_near.ensures.1 both.1)
