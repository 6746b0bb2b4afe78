pub mod Terms
pub mod SmallRuns
pub mod HeldPasses
pub mod SteeredPasses
