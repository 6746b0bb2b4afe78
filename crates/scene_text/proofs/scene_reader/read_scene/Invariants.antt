use Rattle.std.proofs.Common.{length}
use Rattle.scene_text.proofs.ReaderLemmas.{Reads}
use Rattle.scene_text.proofs.scene_reader.read_scene.Given as goal

abbrev pub invariant-loop-line : goal.invariant-loop-line
invariant-loop-line l = Reads l.text l.number l.rest l.draft

abbrev pub decreases-loop-line : goal.decreases-loop-line
decreases-loop-line l = length l.rest
