-- The path to a node of a run has a point, and is clear.
use Rattle.std.proofs.Common.{ℕ, zero, suc, ◌<◌, length, reverse, arith, ap}
use Rattle.std.proofs.lemmas.List.{length-map, length-reverse}
use Rattle.grown_runs.proofs.Common.{path_to, setup_of, IsClearPath, space_of, IsPresent, point_of, chain_in, chain-start, chain-parent, IsClearPath-ordered}
use Rattle.grown_runs.proofs.Common.{state_of_grown}
use Rattle.settle_report.proofs.GrownPaths.{FallAlong-grown}
use Rattle.grown_runs.specs.declared.grown.Grown.{Grown}

module _ (grown : Grown) where
  long_chain : (n : ℕ) → IsPresent (state_of_grown grown).points n → 0 < length (chain_in (state_of_grown grown) n)
  long_chain zero h =
      let state = state_of_grown grown in
      let chain = ap length (chain-start state.cost state.points state.parent (FallAlong-grown grown)) in
      omega (arith, chain)
  long_chain (suc n) h =
      let state = state_of_grown grown in
      let chain = ap length (chain-parent state.cost state.points state.parent (FallAlong-grown grown) n h) in
      omega (arith, chain)

  pub long_path : (n : ℕ) → IsPresent (state_of_grown grown).points n → 0 < length (path_to (state_of_grown grown) n)
  long_path n h =
      let state = state_of_grown grown in
      let points = length-map (reverse (chain_in state n)) (point_of state.points) in
      let turned = length-reverse (chain_in state n) in
      omega (arith, long_chain n h, points, turned)

  pub clear_path : (n : ℕ) → IsPresent (state_of_grown grown).points n → IsClearPath (space_of grown.task.scene) (path_to (state_of_grown grown) n)
  clear_path n h = IsClearPath-ordered (setup_of grown.task.scene) (state_of_grown grown) grown.hold_run.closed.order n h
