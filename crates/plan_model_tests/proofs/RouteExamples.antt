-- Routes and chains of the worked runs.
pub mod ChainLinks
pub mod OpenRoomLinks
pub mod ShortWeights
pub mod ThinTriangle
pub mod WideTriangle
