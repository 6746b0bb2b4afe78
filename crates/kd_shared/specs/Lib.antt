pub mod Terms
pub mod Searches
pub mod Placings
pub mod Looking
