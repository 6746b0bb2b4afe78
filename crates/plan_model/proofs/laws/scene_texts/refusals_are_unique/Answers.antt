use Rattle.plan_model.proofs.Soundness.{Refused-one_line, Refused-one_kind, Spells-not_refused}
use Rattle.plan_model.proofs.laws.scene_texts.refusals_are_unique.Goals as goal

pub returns-clause-line : goal.returns-clause-line
returns-clause-line c = Refused-one_line

pub returns-clause-kind : goal.returns-clause-kind
returns-clause-kind c = Refused-one_kind

pub returns-clause-spelled : goal.returns-clause-spelled
returns-clause-spelled c = Spells-not_refused
