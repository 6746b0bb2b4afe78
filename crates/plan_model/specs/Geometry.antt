-- The plane of lattice points: distances, orientations, costs of edges, steering and radii.
pub mod Plane
pub mod Lengths
