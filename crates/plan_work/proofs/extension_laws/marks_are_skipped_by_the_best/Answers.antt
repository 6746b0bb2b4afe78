use Rattle.plan_work.proofs.Words.{ap, arith, subst, ending_as, EndsAsSeen, View}
use Rattle.plan_work.proofs.SteeredOutcomes.{WasSteered-unskipped}
use Rattle.plan_work.proofs.extension_laws.marks_are_skipped_by_the_best.Goals as goal

pub returns : goal.returns
returns c = record {
  skipped = λ before after k entry extended is.
      let was = subst (λ o. EndsAsSeen before after k entry (ending_as entry o)) is extended.outcome in
      (was.informed, (was.word, was.some_node, was.node, was.within, was.steps));
  steps = λ before after k entry extended is.
      let was = subst (λ o. EndsAsSeen before after k entry (ending_as entry o)) is extended.outcome in
      omega (arith, ap (λ (v : View). v.steps) was.steps);
  unskipped = λ before after k entry extended other. (WasSteered-unskipped before after k entry other extended.outcome).1;
}
