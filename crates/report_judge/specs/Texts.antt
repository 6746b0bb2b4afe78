-- What the lines of a report say, and how the bytes are read.
pub mod ReportForms
pub mod ReportLines
pub mod ReportSheets
pub mod ReportCuts
