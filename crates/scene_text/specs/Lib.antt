pub mod Fetching
pub mod Drafts
