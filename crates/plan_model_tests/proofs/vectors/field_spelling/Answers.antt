use Rattle.plan_model_tests.proofs.Words.{refl, digits, supported, text_of_every_field}
use Rattle.plan_model_tests.proofs.SpelledTexts.{spelled}
use Rattle.plan_model_tests.proofs.vectors.field_spelling.Goals as goal

pub returns : goal.returns
unfolding digits
returns c = search (spelled supported text_of_every_field refl)
