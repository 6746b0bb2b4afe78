-- Passes of the tests of plan_work.
pub mod Sharers
