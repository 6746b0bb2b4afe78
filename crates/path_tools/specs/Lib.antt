pub mod Terms
pub mod SmoothPaths
