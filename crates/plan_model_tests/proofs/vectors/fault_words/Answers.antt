use Rattle.plan_model_tests.proofs.Words.{refl, digits}
use Rattle.plan_model_tests.proofs.vectors.fault_words.Goals as goal

pub returns : goal.returns
unfolding digits
returns c = record { of_each_kind = refl }
