pub mod LoweredNodes
pub mod Shares
mod Words
