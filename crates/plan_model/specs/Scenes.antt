-- What a scene may have, the points of its marks and the strips of its room.
pub mod Limits
pub mod ChangedScenes
pub mod MarkPoints
