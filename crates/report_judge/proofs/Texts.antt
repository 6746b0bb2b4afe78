-- Lines by their bytes, and sheets by their lines.
pub mod SheetTexts
pub mod LineWords
pub mod ListPlaces
pub mod SheetForms
pub mod FrontLaws
pub mod FormBreaks
pub mod SameSheets
pub mod DecimalWords
pub mod FieldWords
pub mod LineParts
pub mod CountParts
pub mod MarkParts
pub mod SheetLines
pub mod ReportCuts
pub mod ReportCutLaws
