use Rattle.plan_model.proofs.EndingLaws.{Record-from_fields}
use Rattle.plan_model.proofs.laws.runs.records_are_their_fields.Goals as goal

pub returns : goal.returns
returns c = Record-from_fields
