use Rattle.std.proofs.Common.{length}
use Rattle.scene_text.proofs.BatchLemmas.{ReadsParts}
use Rattle.scene_text.proofs.batch_reader.read_batch.Given as goal

abbrev pub invariant-loop-scenes : goal.invariant-loop-scenes
invariant-loop-scenes l = ReadsParts l.text l.scenes.items l.before l.rest

abbrev pub decreases-loop-scenes : goal.decreases-loop-scenes
decreases-loop-scenes l = length l.rest
