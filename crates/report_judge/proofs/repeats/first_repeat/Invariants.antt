use Rattle.report_judge.proofs.Words.{◌≡◌, ℕ, ◌<◌, eqb, take, contains, list_any, nat_cmp, IsNewKey}
use Rattle.report_judge.proofs.repeats.first_repeat.Given as goal

-- the numbers so far are new, and the set has them and no others
abbrev pub invariant-loop-place : goal.invariant-loop-place
invariant-loop-place l = record {
  new : (k : ℕ) → k < l.place → IsNewKey l.keys k;
  seen : (q : ℕ) → contains nat_cmp l.seen q ≡ list_any (eqb q) (take l.place l.keys);
}
