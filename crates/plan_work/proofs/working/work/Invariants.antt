use Rattle.plan_work.proofs.Words.{◌≡◌, ℕ, ◌-◌, ◌≤◌, length, turn_of, HasGoneOn, HasHandled, HasWorked}
use Rattle.plan_work.proofs.working.work.Given as goal
use Rattle.plan_work.proofs.WorkedMarks.{AllExtendedSo}

abbrev pub invariant-marks : goal.invariant-marks
invariant-marks g l = record {
  worked : HasWorked l.shared l.fn.pass l.pass l.limit;
  goes_on : HasGoneOn l.fn.pass.view l.pass.view;
  extended : AllExtendedSo l.fn.pass.view l.pass.view;
  textbook : l.shared.workers ≡ 1 → (k : ℕ) → k ≤ l.limit → HasHandled l.fn.pass.view k
      → (m : ℕ) × (m ≤ l.limit) × HasHandled l.pass.view m;
}

abbrev pub decreases-marks : goal.decreases-marks
decreases-marks g l = length l.shared.task.marks - turn_of l.pass.view.crew
