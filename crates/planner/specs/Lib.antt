pub mod Terms
pub mod Refusals
pub mod CheckedTexts
pub mod Conclusions
pub mod Commands
pub mod Inputs
pub mod GeneratedScenes
pub mod Endings
