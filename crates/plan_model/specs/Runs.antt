-- Runs: the textbook run, and the laws that every run keeps.
pub mod Outcomes
pub mod Endings
pub mod OrderLaw
pub mod ClosedLaw
pub mod Textbook
