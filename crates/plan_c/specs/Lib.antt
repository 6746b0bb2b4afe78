pub mod Terms
pub mod Calls
