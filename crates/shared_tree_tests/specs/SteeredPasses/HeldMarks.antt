-- Passes with a mark in hand, as the tests follow them.
use Rattle.std.specs.Prelude.{◌≡◌, ℕ, suc, true, false, Some}
use Rattle.shared_tree_tests.specs.Terms.{BelongsTo, Clear, Counted, Hand, IsNotAbove, PassState, Placing, Point, SeesPoint, SharedState, Stage, Treed, View}
use Rattle.shared_tree_tests.specs.Terms.{distance_to, has_node, has_point, mark_at, point_of, sees, setup_in, tree_seen}
use Rattle.kd_shared.specs.declared.placing.Placing.TheVariants.{Placed, Same}

-- a pass of the tree that has the mark in hand, which has come so far
pub record HoldsMark (shared : SharedState) (k : ℕ) (stage : Stage) (pass : PassState) : Type 0 where
  pub belongs : BelongsTo pass shared
  pub hand : Hand
  pub held : pass.view.hand ≡ Some hand
  pub mark : hand.mark ≡ k
  pub stage_is : hand.stage ≡ stage

-- of the nodes whose records are seen none is nearer to q than node m
abbrev pub IsNearestRecorded : View → Point → ℕ → Type 0
IsNearestRecorded view q m = (n : ℕ) → has_node (sees view) n ≡ true → IsNotAbove (distance_to q (tree_seen view).points) m n

-- The point in hand was steered from this node, and of the nodes whose records are seen none is nearer to the mark.
pub record SteersFrom (nearest : ℕ) (view : View) : Type 0 where
  pub hand : Hand
  pub held : view.hand ≡ Some hand
  pub written : has_point hand.stage ≡ true
  pub nearest_is : hand.nearest ≡ nearest
  pub not_above : IsNearestRecorded view (mark_at view.run.marks hand.mark) nearest

-- The node in hand hangs below the node that it was steered from, at this cost, by a clear segment. It has no record.
pub record HangsBelowNearest (nearest cost : ℕ) (view : View) : Type 0 where
  pub steers : SteersFrom nearest view
  pub parent_is : steers.hand.parent ≡ nearest
  pub cost_is : steers.hand.cost ≡ cost
  pub clear : Clear (setup_in view.run).space (point_of (tree_seen view).points nearest) steers.hand.point
  pub unrecorded : has_node (sees view) (suc steers.hand.mark) ≡ false

-- node j is seen at the point in hand
pub record SeesHandPoint (view : View) (j : ℕ) : Type 0 where
  pub hand : Hand
  pub held : view.hand ≡ Some hand
  pub stands : SeesPoint view j hand.point

-- after it was placed: the node is counted, or another node is seen at its point
abbrev pub HoldsPlaced : SharedState → ℕ → Placing → PassState → Type 0
HoldsPlaced shared k Placed pass = HoldsMark shared k Counted pass
HoldsPlaced shared k (Same j) pass = HoldsMark shared k Treed pass × SeesHandPoint pass.view j
