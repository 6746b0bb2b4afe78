pub mod CostBounds
pub mod LeastEdges
pub mod ReachedRoots
pub mod RadiusFromRoot
pub mod RootBounds
mod Words
