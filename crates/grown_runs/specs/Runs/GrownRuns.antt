-- What a closed run shows of its words, and how one lowered cost changes it.
use Rattle.std.specs.Prelude.{◌≡◌, ◌≢◌, ℕ, ◌+◌, ◌≤◌}
use Rattle.grown_runs.specs.Terms.{Children, TreeState, cost_of, point_of}
use Rattle.grown_runs.specs.declared.grown.Grown.{Grown}
use Rattle.grown_runs.specs.Runs.GrownWords.{sizes_of, state_of_words, children_of_words}
use Rattle.grown_runs.specs.Table.RunWords.{words_in}
use Rattle.grown_runs.specs.Table.WordNames.{Words}

-- its words by their names
abbrev pub words_of_grown : Grown → Words
words_of_grown grown = words_in grown.words

-- the tree of a closed run, with its costs and its records
abbrev pub state_of_grown : Grown → TreeState
state_of_grown grown = state_of_words (sizes_of grown.task) (words_of_grown grown)

-- the children of its kd-tree
abbrev pub children_of_grown : Grown → Children
children_of_grown grown = children_of_words (words_of_grown grown)

-- node n may cost as little: that is at least what its parent costs and the edge
abbrev pub MayCost : TreeState → ℕ → ℕ → Type 0
MayCost state n cost = state.cost (state.parent n) + cost_of (point_of state.points (state.parent n)) (point_of state.points n) ≤ cost

-- node n costs this much, and all else is as it was
pub record CostsInstead (before after : TreeState) (n cost : ℕ) : Type 0 where
  pub here : after.cost n ≡ cost
  pub elsewhere : (i : ℕ) → i ≢ n → after.cost i ≡ before.cost i
  pub points : after.points ≡ before.points
  pub parents : (i : ℕ) → after.parent i ≡ before.parent i
  pub written_costs : (i : ℕ) → after.written_cost i ≡ before.written_cost i
  pub records : (k : ℕ) → after.record_of k ≡ before.record_of k
