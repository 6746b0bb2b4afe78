use Rattle.report_judge.proofs.Words.{◌≡◌, Some, None, sym, ◌∙◌, subst, HangsExactly, not-false, not-true, iff_false}
use Rattle.report_judge.proofs.trees.exact_edges.is_loose.Goals as goal

pub returns-in-Some : goal.returns-in-Some
returns-in-Some g c = record {
  loose = λ h keeps.
      iff_false c.hangs_exactly.ensures (not-true c.hangs_exactly.result h) (keeps c.requires.later c.in-Some.knot (sym c.knot_at.ensures ∙ c.in-Some.is));
  kept = λ h later knot is.
      let both : Some c.in-Some.knot ≡ Some knot = sym (sym c.knot_at.ensures ∙ c.in-Some.is) ∙ is in
      let same : c.in-Some.knot ≡ knot = cc in
      subst (HangsExactly (g.C.Clearing.space c.args.hall.now) c.args.squared_step c.args.knots.now c.args.node) same
      (c.hangs_exactly.ensures.0 (not-false c.hangs_exactly.result h));
}

pub returns-in-None-clause-kept : goal.returns-in-None-clause-kept
returns-in-None-clause-kept g c = λ h later knot is.
    let both : Some knot ≡ None = sym is ∙ sym c.knot_at.ensures ∙ c.in-None.is in
    absurd (cc)
