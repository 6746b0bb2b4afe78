pub mod Terms
pub mod OpeningBests
pub mod States
pub mod Nodes
pub mod Claims
pub mod Plays
pub mod SearchLists
pub mod LoweredChildren
