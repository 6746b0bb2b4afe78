pub mod LeastParents
