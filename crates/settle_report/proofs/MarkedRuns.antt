-- Runs whose nodes are settled in the order of their numbers, each with those above it, and marked.
use Rattle.settle_report.proofs.Words.{◌≡◌, ℕ, suc, ◌+◌, ◌<◌, Bool, false, List, arith, sym, ◌∙◌, subst, inl, inr, IsTrue, slice_index_or, cases_eq, IsPresent}
use Rattle.settle_report.proofs.Words.{ChangesCosts, IsSettled, children_of_grown, state_of_grown, Grown, MarksSettled}
use Rattle.settle_report.proofs.HeldOrders.{number-grown}
use Rattle.settle_report.proofs.SettlingSteps.{ChangesCosts-trans}

-- From one run to another costs alone have changed, and marks are on settled nodes alone.
pub record SettlesMarked (old now : Grown) (marks : List Bool) : Type 0 where
  pub task : now.task ≡ old.task
  pub limit : now.limit ≡ old.limit
  pub children : (n : ℕ) (right : Bool) → children_of_grown now n right ≡ children_of_grown old n right
  pub costs_alone : ChangesCosts (state_of_grown old) (state_of_grown now)
  pub marked : MarksSettled (state_of_grown now) now.limit marks

pub SettlesMarked-trans : (old now after : Grown) (marks more : List Bool) → SettlesMarked old now marks → SettlesMarked now after more
    → SettlesMarked old after more
SettlesMarked-trans old now after marks more first then = record {
  task = then.task ∙ first.task;
  limit = then.limit ∙ first.limit;
  children = λ n right. then.children n right ∙ first.children n right;
  costs_alone = ChangesCosts-trans (state_of_grown old) (state_of_grown now) (state_of_grown after) first.costs_alone then.costs_alone;
  marked = then.marked;
}

-- The nodes below a number are marked.
pub record AreMarkedBelow (run : Grown) (marks : List Bool) (number : ℕ) : Type 0 where
  pub marked : (n : ℕ) → n < number → IsPresent (state_of_grown run).points n → IsTrue (slice_index_or marks n false)

-- one number more, which is marked or without a node
pub AreMarkedBelow-more : (run : Grown) (marks : List Bool) (number : ℕ) → AreMarkedBelow run marks number
    → (IsPresent (state_of_grown run).points number → IsTrue (slice_index_or marks number false)) → AreMarkedBelow run marks (number + 1)
AreMarkedBelow-more run marks number below next = record {
  marked = λ n less here.
      elim (cases_eq n number) [
        | inl last ↦ subst (λ i. IsTrue (slice_index_or marks i false)) (sym last) (next (subst (IsPresent (state_of_grown run).points) last here))
        | inr before ↦ below.marked n (omega (arith, less, before)) here
      ];
}

-- marks stay while costs change
pub AreMarkedBelow-kept : (run after : Grown) (marks more : List Bool) (number : ℕ) → AreMarkedBelow run marks number
    → ChangesCosts (state_of_grown run) (state_of_grown after)
    → ((n : ℕ) → IsTrue (slice_index_or marks n false) → IsTrue (slice_index_or more n false)) → AreMarkedBelow after more number
AreMarkedBelow-kept run after marks more number below change keeps = record {
  marked = λ n less here. keeps n (below.marked n less (subst (λ points. IsPresent points n) change.points here));
}

-- once all nodes are marked the run is settled
pub IsSettled-marked : (run : Grown) (marks : List Bool) → MarksSettled (state_of_grown run) run.limit marks
    → AreMarkedBelow run marks (suc run.limit) → IsSettled (state_of_grown run)
IsSettled-marked run marks settled below n here =
    settled.kept n (below.marked n (omega (arith, number-grown run n here)) here)
