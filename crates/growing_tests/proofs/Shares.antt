-- What passes have and keep in the tests of plan_work.
pub mod Elements
pub mod FullStrips
pub mod KeptShares
