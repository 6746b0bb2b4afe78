-- A small shared run, with worlds, views and records of it.
pub mod SmallWorlds
pub mod SmallViews
pub mod SmallRecords
