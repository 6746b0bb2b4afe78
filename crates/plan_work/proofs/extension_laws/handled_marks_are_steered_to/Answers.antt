use Rattle.plan_work.proofs.Words.{subst, ending_as, EndsAsSeen}
use Rattle.plan_work.proofs.SteeredOutcomes.{Blocked-free, WasSteered-unskipped}
use Rattle.plan_work.proofs.extension_laws.handled_marks_are_steered_to.Goals as goal

pub returns : goal.returns
returns c = record {
  nearest = λ before after k entry extended other n there.
      (WasSteered-unskipped before after k entry other extended.outcome).2.steered.not_above n there;
  same = λ before after k entry extended j is. (subst (λ o. EndsAsSeen before after k entry (ending_as entry o)) is extended.outcome).1.outcome;
  blocked = λ before after k entry extended is.
      let ended = (subst (λ o. EndsAsSeen before after k entry (ending_as entry o)) is extended.outcome).1.outcome in
      (ended.free, ended.blocked);
  free = λ before after k entry extended other free. Blocked-free before after k entry entry.outcome other extended.outcome free;
  swept = λ before after k entry extended other q near. (WasSteered-unskipped before after k entry other extended.outcome).2.steered.swept q near;
  blocked_swept = λ before after k entry extended is.
      (subst (λ o. EndsAsSeen before after k entry (ending_as entry o)) is extended.outcome).1.outcome.swept;
}
