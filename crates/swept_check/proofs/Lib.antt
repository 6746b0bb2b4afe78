pub mod Parameters
pub mod LinearValues
pub mod ClippedParts
pub mod SideValues
pub mod CommonParameters
pub mod RoomLaws
pub mod BoxRejects
pub mod HallLaws
pub mod SceneSummands
pub mod BoundedSegments
mod Words
