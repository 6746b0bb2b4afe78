pub mod Texts
pub mod Laws
pub mod Workers
mod Words
