use Rattle.plan_model.proofs.UniqueRuns.{not_same_or_blocked, not_same_or_placed, not_blocked_or_placed, not_steered_or_skipped}
use Rattle.plan_model.proofs.laws.runs.outcomes_exclude_each_other.Goals as goal

pub returns-clause-same_or_blocked : goal.returns-clause-same_or_blocked
returns-clause-same_or_blocked c = not_same_or_blocked

pub returns-clause-same_or_placed : goal.returns-clause-same_or_placed
returns-clause-same_or_placed c = not_same_or_placed

pub returns-clause-blocked_or_placed : goal.returns-clause-blocked_or_placed
returns-clause-blocked_or_placed c = not_blocked_or_placed

pub returns-clause-steered_or_skipped : goal.returns-clause-steered_or_skipped
returns-clause-steered_or_skipped c = not_steered_or_skipped
