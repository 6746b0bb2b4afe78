-- The outcomes of the marks below a limit, counted one mark at a time.
use Rattle.settle_report.proofs.Words.{◌≡◌, ℕ, suc, ◌+◌, Bool, cond, Option, Some, arith, refl, ap, ◌∙◌, Outcome, Placed, Same, Blocked, Skipped, Record}
use Rattle.settle_report.proofs.Words.{has_outcome, outcome_count, is_placed, is_same, is_blocked, is_skipped, count-more, AreCounts, with_outcome}
use Rattle.settle_report.proofs.Words.{OutcomeCounts}

-- a mark counts once
counts_once : (o : Outcome) → ((cond (is_placed o) 1 0 + cond (is_same o) 1 0) + cond (is_blocked o) 1 0) + cond (is_skipped o) 1 0 ≡ 1
counts_once Placed = refl
counts_once (Same j) = refl
counts_once Blocked = refl
counts_once Skipped = refl

-- one mark more is counted
pub AreCounts-next :
    (record_of : ℕ → Option Record) (k : ℕ) (entry : Record) (counts : OutcomeCounts) → record_of k ≡ Some entry → AreCounts record_of k counts
    → AreCounts record_of (k + 1) (with_outcome counts entry.outcome)
AreCounts-next record_of k entry counts found before =
    let next : (test : Outcome → Bool) → outcome_count record_of (k + 1) test ≡ outcome_count record_of k test + cond (test entry.outcome) 1 0 =
    λ test.
    let more : k + 1 ≡ suc k = omega arith in
    ap (λ n. outcome_count record_of n test) more ∙ count-more (λ n. has_outcome test (record_of n)) k
    ∙ ap (λ o. outcome_count record_of k test + cond (has_outcome test o) 1 0) found in
    record {
      placed = omega (arith, next is_placed, before.placed);
      same = omega (arith, next is_same, before.same);
      blocked = omega (arith, next is_blocked, before.blocked);
      skipped = omega (arith, next is_skipped, before.skipped);
      all = omega (arith, before.all, counts_once entry.outcome);
    }
