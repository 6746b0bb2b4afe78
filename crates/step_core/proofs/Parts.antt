-- The parts of the law of worlds, each after any step that leaves what it speaks of.
pub mod ViewLists
pub mod WorldParts
pub mod MarksInHand
pub mod HandsAt
pub mod WorldLinks
pub mod LinkedStates
pub mod WorldCopies
pub mod Shifts
pub mod WorldNotes
pub mod NotedSteps
pub mod WorldBests
pub mod WorldHands
pub mod WorldTrees
pub mod WorldPairs
pub mod HungNodes
pub mod WorldRecords
pub mod LawfulRecords
