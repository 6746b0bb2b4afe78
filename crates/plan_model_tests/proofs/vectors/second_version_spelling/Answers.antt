use Rattle.plan_model_tests.proofs.Words.{refl, digits, supported, small_text}
use Rattle.plan_model_tests.proofs.SpelledTexts.{spelled}
use Rattle.plan_model_tests.proofs.vectors.second_version_spelling.Goals as goal

pub returns : goal.returns
unfolding digits
returns c = search (spelled supported small_text refl)
