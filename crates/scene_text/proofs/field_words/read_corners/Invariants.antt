use Rattle.scene_text.proofs.Words.{length, least_of, most_of, words_of}
use Rattle.scene_text.proofs.PolygonLemmas.{ReadsCorners}
use Rattle.scene_text.proofs.field_words.read_corners.Given as goal

abbrev pub invariant-loop-rest : goal.invariant-loop-rest
invariant-loop-rest l = ReadsCorners (least_of l.version l.key) (most_of l.version l.key) (words_of l.words) (words_of l.rest) l.corners.items

abbrev pub decreases-loop-rest : goal.decreases-loop-rest
decreases-loop-rest l = length (words_of l.rest)
