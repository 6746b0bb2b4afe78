-- What the definitions here say of the crates below and of the types of this one, passed on from one place. Declares nothing.
pub use Rattle.step_core.specs.ViewSteps.{new_hand}
pub use Rattle.tree_rewire.specs.Spreads.{HasPlaced}
pub use Rattle.plan_work.specs.Terms.{BelongsTo, Hand, IsInReach, MayClaim, PassState, Placed, Placing, Same, SharedState, Stage, share}
