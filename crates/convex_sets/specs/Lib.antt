pub mod Terms
pub mod Outlines
pub mod Boxes
