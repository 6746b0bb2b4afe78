use Rattle.plan_words.proofs.Words.{◌≢◌, ◌%◌, ◌<◌, IsLeastNext, LoadsCounters}
use Rattle.plan_words.proofs.shared.Shared.least_of_others.Given as goal

abbrev pub invariant-loop-owner : goal.invariant-loop-owner
invariant-loop-owner l = record {
  loads : LoadsCounters l.self l.fn.pass l.pass;
  scanned : IsLeastNext l.fn.pass.view l.pass.view (λ g. (g % l.self.workers < l.owner) × (g % l.self.workers ≢ l.worker)) l.most l.least;
}
