use Rattle.report_judge.proofs.Words.{◌≡◌, Some, true, eqb, ap, sym, ◌∙◌, ◌&&◌, Point, arith, nat_tests}
use Rattle.report_judge.proofs.Laws.ListedNodes.{none-stands, same-listed, stands-listed}
use Rattle.report_judge.proofs.Workers.OwnNodeLaws.{same_point}
use Rattle.report_judge.proofs.marks.placed_marks.stands_at.Goals as goal

pub returns-in-Some : goal.returns-in-Some
returns-in-Some c =
    let own = c.in-Some.knot.point in
    let p = c.args.p in
    λ records. (
      λ h.
          stands-listed c.args.knots.now records c.args.node c.in-Some.knot (sym c.in-Some.ensures) ∙ ap Some (same_point own p c.eq.result c.eq.ensures h),
      λ stands.
          let same = same-listed c.args.knots.now records c.args.node c.in-Some.knot p (sym c.in-Some.ensures) stands in
          let x : own.x ≡ p.x = ap (λ (q : Point). q.x) same in
          let y : own.y ≡ p.y = ap (λ (q : Point). q.y) same in
          let full : (eqb own.x p.x && eqb own.y p.y) ≡ true = grind (arith, nat_tests) in
          c.eq.ensures ∙ full,
    )

pub returns-in-None : goal.returns-in-None
returns-in-None c = λ records. (λ h. cc, λ stands. absurd (none-stands c.args.knots.now records c.args.node c.args.p (sym c.in-None.ensures) stands))
