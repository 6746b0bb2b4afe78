-- What the definitions here say of the crates below and of the types of this one, passed on from one place. Declares nothing.
pub use Rattle.convex_sets.specs.Boxes.{IsBoundingBox, boxes_meet, segment_box}
pub use Rattle.convex_sets.specs.declared.bounding_boxes.BoundingBox.{BoundingBox}
pub use Rattle.obstacle_boxes.specs.declared.box_nodes.Node.{Node}
pub use Rattle.obstacle_boxes.specs.declared.box_nodes.Node.TheVariants.{Halves, Zone}
pub use Rattle.obstacle_boxes.specs.declared.leaves.Leaf.{Leaf}
pub use Rattle.plan_model.specs.declared.configuration_spaces.ConfigurationSpace.{ConfigurationSpace}
pub use Rattle.swept_check.specs.Crossings.{AreZonesOf, Crosses}
pub use Rattle.convex_sets.specs.Terms.{Point, Vertex}
