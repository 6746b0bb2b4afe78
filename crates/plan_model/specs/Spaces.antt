-- Configuration spaces: the room, where the body meets obstacles, and where it is clear.
pub mod Zones
pub mod Clearance
pub mod ConfigurationSpace
