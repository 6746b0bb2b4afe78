-- The parent with the least pair of cost and number, where `through` gives the cost through each node, by its number.
use Rattle.std.specs.Prelude.{◌≡◌, ℕ}
use Rattle.plan_model.specs.Trees.Nearness.{IsFirstLeast}
use Rattle.edge_cost.specs.declared.parents.Parent.{Parent}

-- it is the one with the least pair among these nodes, with its cost
pub record IsLeastParent (through : ℕ → ℕ) (among : ℕ → Type 0) (parent : Parent) : Type 0 where
  pub least : IsFirstLeast through among parent.node
  pub cost : parent.cost ≡ through parent.node
