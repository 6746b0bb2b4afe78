pub mod Table
pub mod Runs
pub mod Ways
pub mod Children
pub mod Common
mod Words
