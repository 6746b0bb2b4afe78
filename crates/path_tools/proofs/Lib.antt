pub mod RestLaws
pub mod ClearRests
pub mod RestEntries
pub mod Walks
pub mod SmoothedLaws
pub mod RunPaths
