-- The kd-tree, as it is linked and walked.
pub mod SplitSides
pub mod WalkStops
pub mod NodesBelow
pub mod LinkedWords
pub mod LinkedNodes
