-- What is seen of a tree that others grow.
pub mod Sights
pub mod SeenTrees
