use Rattle.plan_words.proofs.Words.{◌≡◌, ◌-◌, ◌%◌, ◌<◌, IsLeastNext, LoadsCounters}
use Rattle.plan_words.proofs.shared.Shared.least_of.Given as goal

abbrev pub invariant-turns : goal.invariant-turns
invariant-turns l = record {
  loads : LoadsCounters l.self l.fn.pass l.pass;
  turn : l.strip % l.self.workers ≡ l.owner;
  scanned : IsLeastNext l.fn.pass.view l.pass.view (λ g. (g < l.strip) × (g % l.self.workers ≡ l.owner)) l.most l.least;
}

abbrev pub decreases-turns : goal.decreases-turns
decreases-turns l = l.strips - l.strip
