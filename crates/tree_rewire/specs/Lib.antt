pub mod Terms
pub mod SeenCosts
pub mod Spreads
pub mod NearNodes
