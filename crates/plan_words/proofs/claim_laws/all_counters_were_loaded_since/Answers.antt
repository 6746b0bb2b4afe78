use Rattle.plan_words.proofs.Words.{arith, Counter}
use Rattle.plan_words.proofs.claim_laws.all_counters_were_loaded_since.Goals as goal

pub returns-clause-stepped : goal.returns-clause-stepped
returns-clause-stepped c = λ view moment lawful loaded.
    omega (arith, loaded 0 lawful.run.strips.0, lawful.of_run.looks (Counter 0))
