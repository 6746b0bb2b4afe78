pub mod Terms
pub mod Twins
