-- A shared run at its begin.
pub mod BegunWorld
pub mod MarkEdge
