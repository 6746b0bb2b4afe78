pub mod BandSkips
mod Words
