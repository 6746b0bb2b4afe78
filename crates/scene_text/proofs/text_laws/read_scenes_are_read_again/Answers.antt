use Rattle.scene_text.proofs.Words.{refl, canonical_text, supported}
use Rattle.scene_text.proofs.CoveredScenes.{Covers-supported}
use Rattle.scene_text.proofs.CanonicalFields.{Spells-canonical}
use Rattle.scene_text.proofs.text_laws.read_scenes_are_read_again.Goals as goal

pub returns-clause-again : goal.returns-clause-again
returns-clause-again c = λ text scene spelled.
    Spells-canonical supported scene (canonical_text scene) (Covers-supported scene) refl

pub returns-clause-converted : goal.returns-clause-converted
returns-clause-converted c = λ text scene converted spelled h.
    Spells-canonical supported converted (canonical_text converted) (Covers-supported converted) refl
