-- The kd-tree of the nodes: its sides, its links, and the way of a point.
pub mod KdLinks
