pub mod Terms
pub mod Routes
