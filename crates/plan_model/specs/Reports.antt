-- Reports of runs.
pub mod ReportText
