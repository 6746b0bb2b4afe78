pub mod Seen
pub mod OneView
pub mod Parts
pub mod Steps
pub mod Whole
pub mod Common
mod Words
