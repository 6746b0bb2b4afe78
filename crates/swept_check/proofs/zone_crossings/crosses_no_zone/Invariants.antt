use Rattle.swept_check.proofs.Words.{ℕ, ◌<◌, [], get_or, Crosses}
use Rattle.swept_check.proofs.zone_crossings.crosses_no_zone.Given as goal

abbrev pub invariant-loop-zone : goal.invariant-loop-zone
invariant-loop-zone l = (k : ℕ) → k < l.zone-index → ¬ Crosses (get_or l.zones k []) l.a l.b
