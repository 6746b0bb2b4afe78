pub mod Terms
pub mod Texts
pub mod Laws
pub mod Workers
