-- Passes with a mark in hand, as the tests follow them.
use Rattle.std.specs.Prelude.{◌≡◌, ℕ, ◌^◌, ◌≤◌, Option, Some, None}
use Rattle.shared_tree_tests.specs.Terms.{BelongsTo, Clear, Hand, IsUnskipped, MayClaim, PassState, Point, SeesPoint, SharedState, Stage, TreeOf, View}
use Rattle.shared_tree_tests.specs.Terms.{best_of_word, cost_of, sees, setup_in, share}

-- a pass of the tree that has the mark in hand, which has come so far, with no other nearest node than the start
pub record HoldsMark (shared : SharedState) (k : ℕ) (stage : Stage) (pass : PassState) : Type 0 where
  pub belongs : BelongsTo pass shared
  pub hand : Hand
  pub held : pass.view.hand ≡ Some hand
  pub mark : hand.mark ≡ k
  pub stage_is : hand.stage ≡ stage
  pub from_start : hand.nearest ≡ 0

-- The best was loaded for the mark in hand, and told this.
pub record TakesBest (want : Option (ℕ × ℕ)) (view : View) : Type 0 where
  pub hand : Hand
  pub held : view.hand ≡ Some hand
  pub word : ℕ
  pub taken : hand.best ≡ Some word
  pub tells : best_of_word word ≡ want

-- The node in hand hangs below the start at this cost, by a clear segment. The tree word of the start is seen. The mark is not skipped.
pub record HangsFromStart (cost : ℕ) (view : View) : Type 0 where
  pub hand : Hand
  pub held : view.hand ≡ Some hand
  pub parent_is : hand.parent ≡ 0
  pub cost_is : hand.cost ≡ cost
  pub start : Point
  pub seen : SeesPoint view 0 start
  pub edge : cost ≡ cost_of start hand.point
  pub clear : Clear (setup_in view.run).space start hand.point
  pub written : 2 ^ 63 ≤ sees view (TreeOf 0)
  pub unskipped : IsUnskipped view hand

-- ---- Passes and their shares, as the tests follow them.
-- a pass of the tree with this share that may claim a mark
pub record HasShare (shared : SharedState) (n : ℕ) (pass : PassState) : Type 0 where
  pub may_claim : MayClaim shared pass
  pub share_is : share pass.view ≡ n

-- a pass of the tree with nothing in hand, which may have no share
pub record IsIdle (shared : SharedState) (pass : PassState) : Type 0 where
  pub belongs : BelongsTo pass shared
  pub idle : pass.view.hand ≡ None
