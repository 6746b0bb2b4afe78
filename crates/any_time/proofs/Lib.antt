pub mod BestNodes
pub mod SunkSums
pub mod FoundPaths
pub mod FirstPaths
pub mod FallingItems
pub mod EachSlice
pub mod KnownOptions
pub mod SamePaths
pub mod TextbookSlices
pub mod GatheredItems
pub mod TurnLoop
pub mod ItemsOfSessions
pub mod KeptRuns
pub mod GatheredBatches
pub mod FinishedBatches
pub mod BatchReports
mod Words
