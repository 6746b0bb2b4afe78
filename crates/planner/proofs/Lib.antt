pub mod Causes
pub mod KnownBytes
pub mod CutTexts
pub mod DecidedStatuses
pub mod GivenChecks
pub mod Successes
pub mod GivenAnswers
pub mod GivenBatches
pub mod ConcludedCalls
pub mod GeneratedObstacles
pub mod ClearStarts
pub mod CommandWords
mod Words
