pub mod TripleOrder
pub mod SearchedPairs
pub mod StraightWays
pub mod TurnedRanges
pub mod TurnedRuns
pub mod NumberedNodes
pub mod BridgeLaws
mod Words
