-- Passes of the tests of plan_words.
pub mod HeldMarks
