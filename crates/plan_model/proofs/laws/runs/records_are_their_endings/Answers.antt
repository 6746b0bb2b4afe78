use Rattle.plan_model.proofs.EndingLaws.{ending_of-record, record_of_ending-again}
use Rattle.plan_model.proofs.laws.runs.records_are_their_endings.Goals as goal

pub returns-clause-said : goal.returns-clause-said
returns-clause-said c = ending_of-record

pub returns-clause-again : goal.returns-clause-again
returns-clause-again c = record_of_ending-again
