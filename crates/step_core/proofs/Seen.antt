-- Words that were seen, the tree that they say, and one look more.
pub mod DistinctNumbers
pub mod SeenWays
pub mod SeenWords
pub mod Looks
pub mod LaterWords
pub mod SeenByViews
