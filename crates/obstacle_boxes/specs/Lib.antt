pub mod Terms
pub mod Trees
