pub mod SmallRuns
pub mod HeldPasses
pub mod SteeredPasses
mod Words
