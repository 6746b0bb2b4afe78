pub mod ShortLists
pub mod Pillars
pub mod SightDecisions
pub mod SeenByOne
pub mod SeenByTwo
pub mod Decisions
pub mod ComputedCosts
pub mod OrderDecisions
pub mod RecordDecisions
pub mod ClosedDecisions
pub mod ComputedRuns
pub mod LawfulRecords
pub mod SpelledTexts
pub mod ComputedMeetings
pub mod RouteExamples
mod Words
