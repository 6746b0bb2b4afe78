-- A run is settled exactly if all its nodes but the start are tight.
use Rattle.settle_report.proofs.Words.{ℕ, zero, suc, ◌<◌, ◌≤◌, arith, sym, setup_of, IsSettled, sums-tight, sum_in-parent, state_of_grown, words_of_grown}
use Rattle.settle_report.proofs.Words.{node-held, Grown, IsTight}
use Rattle.settle_report.proofs.GrownPaths.{FallAlong-grown}
use Rattle.settle_report.proofs.HeldOrders.{parent-held}

module _ (grown : Grown) where
  pub IsSettled-tight : ((n : ℕ) → 0 < n → n ≤ grown.limit → IsTight (state_of_grown grown) n) → IsSettled (state_of_grown grown)
  IsSettled-tight tight n here =
      let state = state_of_grown grown in
      sym (sums-tight state.cost state.points state.parent (FallAlong-grown grown) (record {
        start = grown.hold_run.closed.order.start_cost;
        edges = λ m at. tight (suc m) (omega arith) (node-held grown.task grown.limit (words_of_grown grown) grown.hold_run (suc m) at) at;
      }) n here)

  pub IsTight-settled : IsSettled (state_of_grown grown) → (n : ℕ) → 0 < n → IsTight (state_of_grown grown) n
  IsTight-settled settled zero other here = absurd (omega (arith, other))
  IsTight-settled settled (suc n) other here =
      let state = state_of_grown grown in
      let parent = parent-held grown.task grown.limit (words_of_grown grown) grown.hold_run (suc n) here in
      omega (
        arith,
        settled (suc n) here,
        settled (state.parent (suc n)) parent,
        sum_in-parent (setup_of grown.task.scene) state grown.hold_run.closed.order n here,
      )
