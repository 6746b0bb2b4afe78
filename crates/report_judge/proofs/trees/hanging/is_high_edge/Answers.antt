use Rattle.std.proofs.Common.{arith}
use Rattle.report_judge.proofs.trees.hanging.is_high_edge.Goals as goal

pub returns-then-to-from : goal.returns-then-to-from
returns-then-to-from g c = (
  λ h. record {
    clear = c.clear.ensures.0 h;
    short = omega (arith, c.squared_distance.ensures.value, c.if-squared_distance-squared_step.false);
    above = omega (arith, c.cost.ensures.value, c.if-to-from.true);
  },
  λ edge. c.clear.ensures.1 edge.clear,
)
