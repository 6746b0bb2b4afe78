-- Passes of the tests of kd_shared.
pub mod HeldMarks
