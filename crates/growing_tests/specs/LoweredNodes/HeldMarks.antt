-- Passes as the tests follow them.
use Rattle.std.specs.Prelude.{◌≡◌, ℕ, ◌<◌, Some, All, IfSome, IsSome}
use Rattle.growing_tests.specs.Terms.{BelongsTo, Hand, HasPlaced, IsInReach, PassState, Placed, Placing, Same, SharedState, Stage, share}

-- a pass of the tree that has a share
pub record IsAtWork (shared : SharedState) (pass : PassState) : Type 0 where
  pub belongs : BelongsTo pass shared
  pub part : 0 < share pass.view

-- such a pass with the mark in hand, which has come so far; its point is steered from this node, if it is written
pub record HoldsMark (shared : SharedState) (k : ℕ) (stage : Stage) (nearest : ℕ) (pass : PassState) : Type 0 where
  pub belongs : BelongsTo pass shared
  pub part : 0 < share pass.view
  pub hand : Hand
  pub held : pass.view.hand ≡ Some hand
  pub mark : hand.mark ≡ k
  pub stage_is : hand.stage ≡ stage
  pub nearest_is : hand.nearest ≡ nearest

-- all on the near list are at most a step from the point in hand
abbrev pub HasNearInReach : PassState → Type 0
HasNearInReach pass = IfSome pass.view.hand (λ hand. All (IsInReach pass.view hand.point) pass.lists.near)

-- a pass whose near nodes may be rewired below the node of mark k
pub record MayRewire (shared : SharedState) (k : ℕ) (pass : PassState) : Type 0 where
  pub belongs : BelongsTo pass shared
  pub part : 0 < share pass.view
  pub hand : IsSome pass.view.hand
  pub placed : IfSome pass.view.hand (λ hand. HasPlaced pass.view k hand)
  pub near : HasNearInReach pass

-- so it is if the node is placed
abbrev pub IfPlaced : Placing → Type 0 → Type 0
IfPlaced Placed then = then
IfPlaced (Same j) then = Unit {0}
