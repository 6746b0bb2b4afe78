pub mod HeldBoxes
pub mod SameZones
pub mod LeafLists
pub mod NodeLists
pub mod Counts
pub mod Descents
pub mod ZoneTrees
mod Words
