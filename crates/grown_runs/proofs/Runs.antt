-- Runs as the words hold them, from the start, from lists, and with a lower cost.
pub mod GrownPoints
pub mod LinkedPresence
pub mod HeldRuns
pub mod HeldNodes
pub mod HeldBests
pub mod OpeningBests
pub mod LoweredWords
pub mod StartWords
pub mod PackedWritings
pub mod PackedStates
pub mod PackedLists
pub mod FittingStates
pub mod FittingRuns
pub mod ListedRuns
