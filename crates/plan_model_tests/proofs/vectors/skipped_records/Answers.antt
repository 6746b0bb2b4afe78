use Rattle.plan_model_tests.proofs.LawfulRecords.{lawful, unlawful}
use Rattle.plan_model_tests.proofs.vectors.skipped_records.Goals as goal

pub returns : goal.returns
returns c = search (lawful, unlawful)
