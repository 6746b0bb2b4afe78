use Rattle.std.proofs.Common.{sym}
use Rattle.scene_text.proofs.CanonicalNumbers.{corners_from-numbers}
use Rattle.scene_text.proofs.drafts.body_or_origin.Goals as goal

pub returns-in-Some : goal.returns-in-Some
returns-in-Some c = rw c.in-Some.is (sym (corners_from-numbers c.in-Some.body))
