-- The laws of full reports, and verdicts by them.
pub mod FirstBreaks
pub mod SheetLaws
pub mod Verdicts
