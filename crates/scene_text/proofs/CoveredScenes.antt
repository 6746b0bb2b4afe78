-- Which formats have the version and the keys of a scene's canonical text.
use Rattle.scene_text.proofs.Words.{refl, Scene, supported, whole_format, Covers}

pub Covers-whole : (scene : Scene) → Covers whole_format scene
Covers-whole scene = record { version = refl; keys = λ key h. refl }

-- what is supported has both versions, and each key
pub Covers-supported : (scene : Scene) → Covers supported scene
Covers-supported scene = record { version = refl; keys = λ key h. refl }
