use Rattle.plan_model_tests.proofs.Words.{refl, supported, text_with_polygons}
use Rattle.plan_model_tests.proofs.SpelledTexts.{spelled}
use Rattle.plan_model_tests.proofs.vectors.polygon_spelling.Goals as goal

pub returns : goal.returns
returns c = search (spelled supported text_with_polygons refl)
