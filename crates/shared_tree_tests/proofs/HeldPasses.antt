-- What passes hold and may record in the tests of plan_words.
pub mod HeldMarks
pub mod FirstRecords
pub mod LinkedPlaces
pub mod Elements
pub mod StartMarks
pub mod InformedMarks
