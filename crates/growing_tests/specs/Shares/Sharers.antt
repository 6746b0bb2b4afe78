-- Passes and their shares, as the tests follow them.
use Rattle.std.specs.Prelude.{◌≡◌, ℕ, length, Some}
use Rattle.growing_tests.specs.Terms.{BelongsTo, MayClaim, PassState, SharedState, new_hand, share}

-- a pass of the tree with this share that may claim a mark
pub record HasShare (shared : SharedState) (n : ℕ) (pass : PassState) : Type 0 where
  pub may_claim : MayClaim shared pass
  pub share_is : share pass.view ≡ n

-- a pass of the tree with this share that has claimed mark k, of which nothing is written
pub record HasClaimed (shared : SharedState) (n k : ℕ) (pass : PassState) : Type 0 where
  pub belongs : BelongsTo pass shared
  pub share_is : share pass.view ≡ n
  pub hand : pass.view.hand ≡ Some (new_hand k)

-- a tree of three marks, of which none was handled before it was shared
pub record IsOfThree (shared : SharedState) : Type 0 where
  pub opening : shared.opening ≡ 0
  pub marks : length shared.task.marks ≡ 3
