use Rattle.plan_model_tests.proofs.Words.{refl, digits, whole_format, wide_text}
use Rattle.plan_model_tests.proofs.SpelledTexts.{spelled}
use Rattle.plan_model_tests.proofs.vectors.wide_spelling.Goals as goal

pub returns : goal.returns
unfolding digits
returns c = search (spelled whole_format wide_text refl)
