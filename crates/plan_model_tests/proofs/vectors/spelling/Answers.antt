use Rattle.plan_model_tests.proofs.Words.{refl, digits, supported, sound_text}
use Rattle.plan_model_tests.proofs.SpelledTexts.{spelled}
use Rattle.plan_model_tests.proofs.vectors.spelling.Goals as goal

pub returns : goal.returns
unfolding digits
returns c = search (spelled supported sound_text refl)
