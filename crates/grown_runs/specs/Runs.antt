-- The runs that words hold.
pub mod GrownWords
pub mod PackedRuns
pub mod GrownRuns
