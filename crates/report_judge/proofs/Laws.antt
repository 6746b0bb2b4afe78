-- Sheets that keep every law, and the first lines that break one.
pub mod SheetTrees
pub mod OwnTurns
pub mod LawfulSheets
pub mod ReportsOfRuns
pub mod OneVerdict
pub mod BrokenLines
pub mod FirstBreakLaws
pub mod TurnBreaks
pub mod NodeBreaks
pub mod HangingNodes
pub mod HeadBreaks
pub mod ListedNodes
pub mod RecordBreaks
pub mod SheetFacts
pub mod SheetVerdicts
