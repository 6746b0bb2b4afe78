pub mod GivenItems
pub mod WatchedSessions
pub mod WatchedScenes
mod Words
