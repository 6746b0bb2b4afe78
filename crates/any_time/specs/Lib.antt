pub mod Terms
pub mod Sessions
pub mod Items
pub mod Batches
pub mod BetterPaths
