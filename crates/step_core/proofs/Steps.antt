-- The kinds of steps, each with all parts of the law.
pub mod SteppedWorlds
pub mod WorldSteps
pub mod WorldNodes
pub mod WorldPosts
pub mod FinishedTurns
pub mod FinishedMarks
pub mod WorldSplits
pub mod WorldJoins
pub mod WorldStarts
