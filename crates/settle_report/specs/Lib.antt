pub mod SettledMarks
