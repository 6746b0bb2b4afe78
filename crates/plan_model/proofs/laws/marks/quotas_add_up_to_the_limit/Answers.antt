use Rattle.plan_model.proofs.StripMarks.{quotas-add_up}
use Rattle.plan_model.proofs.laws.marks.quotas_add_up_to_the_limit.Goals as goal

pub returns : goal.returns
returns c = quotas-add_up
