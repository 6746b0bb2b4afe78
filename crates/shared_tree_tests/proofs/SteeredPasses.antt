-- What passes know and may record in the tests of kd_shared.
pub mod RepeatedPoints
pub mod SteeredMarks
pub mod SteeredRecords
