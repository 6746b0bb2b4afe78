use Rattle.report_judge.proofs.Words.{◌≡◌, Some, None, sym, ◌∙◌, subst, IsHighEdge}
use Rattle.report_judge.proofs.trees.hanging.may_hang.Goals as goal

pub returns-then-place-node : goal.returns-then-place-node
returns-then-place-node g c = (
  λ h. record {
    up = c.in-Some.parent;
    there = sym c.knot_at.ensures ∙ c.in-Some.is;
    other = c.if-place-node.true;
    edge = c.is_high_edge.ensures.0 h;
  },
  λ hangs.
      let both : Some c.in-Some.parent ≡ Some hangs.up = sym (sym c.knot_at.ensures ∙ c.in-Some.is) ∙ hangs.there in
      let same : c.in-Some.parent ≡ hangs.up = cc in
      c.is_high_edge.ensures.1
      (subst (λ from. IsHighEdge (g.C.Clearing.space c.args.hall.now) c.args.squared_step from c.args.place) (sym same) hangs.edge),
)

pub returns-in-None : goal.returns-in-None
returns-in-None g c = (λ h. cc, λ hangs. absurd (let both : Some hangs.up ≡ None = sym hangs.there ∙ sym c.knot_at.ensures ∙ c.in-None.is in cc))
