pub mod Terms
pub mod Extensions
pub mod ExtensionSteps
pub mod OneWorker
pub mod Workers
