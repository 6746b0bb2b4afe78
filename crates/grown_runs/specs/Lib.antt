pub mod Terms
pub mod Table
pub mod Runs
pub mod Ways
pub mod ChildChains
