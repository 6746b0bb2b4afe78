-- Texts of scenes, and the streams that they come from.
pub mod TextLines
pub mod Keys
pub mod LineChecks
pub mod SceneGrammar
pub mod CanonicalText
pub mod Streams
