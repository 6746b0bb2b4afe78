pub mod Terms
pub mod WatchWords
pub mod Watching
