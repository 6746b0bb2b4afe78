pub mod Terms
pub mod LoweredNodes
pub mod Shares
