use Rattle.plan_model.proofs.QuotaLaws.{IsCutAt-quota}
use Rattle.plan_model.proofs.laws.marks.quotas_count_the_marks_of_a_strip.Goals as goal

pub returns : goal.returns
returns c = λ strips g limit k within. (let cut = IsCutAt-quota strips g limit within in (cut.below_quota k, cut.below_limit k))
