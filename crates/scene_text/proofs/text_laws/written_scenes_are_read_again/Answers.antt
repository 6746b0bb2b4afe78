use Rattle.scene_text.proofs.Words.{refl, canonical_text, whole_format, Spells-one_scene, Spells-not_refused}
use Rattle.scene_text.proofs.CoveredScenes.{Covers-whole}
use Rattle.scene_text.proofs.CanonicalFields.{Spells-canonical}
use Rattle.scene_text.proofs.CanonicalLengths.{length-canonical}
use Rattle.scene_text.proofs.text_laws.written_scenes_are_read_again.Goals as goal

pub returns-clause-spells : goal.returns-clause-spells
returns-clause-spells c = λ format scene covers. Spells-canonical format scene (canonical_text scene) covers refl

pub returns-clause-alone : goal.returns-clause-alone
returns-clause-alone c = λ format scene other covers spelled.
    Spells-one_scene format (canonical_text scene) other scene spelled (Spells-canonical format scene (canonical_text scene) covers refl)

pub returns-clause-sound : goal.returns-clause-sound
returns-clause-sound c = λ format scene number kind covers refused.
    Spells-not_refused format (canonical_text scene) scene number kind (Spells-canonical format scene (canonical_text scene) covers refl) refused

pub returns-clause-distinct : goal.returns-clause-distinct
returns-clause-distinct c = λ scene other same.
    Spells-one_scene whole_format (canonical_text scene) scene other
    (Spells-canonical whole_format scene (canonical_text scene) (Covers-whole scene) refl)
    (Spells-canonical whole_format other (canonical_text scene) (Covers-whole other) same)

pub returns-clause-fits : goal.returns-clause-fits
returns-clause-fits c = λ scene. length-canonical scene
