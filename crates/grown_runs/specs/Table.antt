-- The words of a run: what is packed into each, their names and places, and what may become of them or is seen of them.
pub mod Words
pub mod WordNames
pub mod WordKinds
pub mod WordPlaces
pub mod PlacesOfWords
pub mod RunWords
pub mod SeenWords
