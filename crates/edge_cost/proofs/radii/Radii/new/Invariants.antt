use Rattle.edge_cost.proofs.Words.{◌≡◌, ℕ, ◌<◌, slice_index, radius_of_class}
use Rattle.edge_cost.proofs.radii.Radii.new.Given as goal

abbrev pub invariant-loop-class : goal.invariant-loop-class
invariant-loop-class l = (k : ℕ) → k < l.class → slice_index l.radius-items k ≡ radius_of_class l.step l.gamma k
