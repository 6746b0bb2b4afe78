-- What follows from the whole share, and over the time of a call.
pub mod WholeCopies
pub mod ClosedWorlds
pub mod GrownFromWords
pub mod Histories
