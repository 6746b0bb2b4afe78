-- What passes hold and may rewire in the tests of tree_rewire.
pub mod ReachedNodes
pub mod PlacedHands
pub mod WorkingPasses
