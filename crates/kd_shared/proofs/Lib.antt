pub mod SideDistances
pub mod Searching
pub mod VisitedOnce
pub mod LoadedChildren
pub mod SortedNear
pub mod NearSearch
pub mod SearchResults
pub mod Looking
pub mod PassLooks
pub mod Finding
pub mod PlacedNodes
pub mod LinkedSights
pub mod NearPasses
pub mod PoppedNodes
pub mod WalkedOnce
pub mod NearestSearch
pub mod NearestPasses
mod Words
