use Rattle.std.proofs.Common.{length}
use Rattle.scene_text.proofs.PartLemmas.{ReadsPart}
use Rattle.scene_text.proofs.batch_reader.read_part.Given as goal

abbrev pub invariant-loop-line : goal.invariant-loop-line
invariant-loop-line l = ReadsPart l.text l.lines l.rest l.draft

abbrev pub decreases-loop-line : goal.decreases-loop-line
decreases-loop-line l = length l.rest
