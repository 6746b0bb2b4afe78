pub mod Terms
pub mod LinkedTrees
pub mod SearchTrees
