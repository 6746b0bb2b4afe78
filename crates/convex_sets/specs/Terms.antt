-- What the definitions here say of the crates below and of the types of this one, passed on from one place. Declares nothing.
pub use Rattle.convex_sets.specs.declared.bounding_boxes.BoundingBox.{BoundingBox}
pub use Rattle.plan_model.specs.Geometry.Plane.{corner_at, is_strictly_convex, next_corner, orientation}
pub use Rattle.plan_model.specs.Scenes.Limits.{is_corner_between}
pub use Rattle.plan_model.specs.Spaces.Zones.{Meets}
pub use Rattle.plan_model.specs.Spaces.ConfigurationSpace.{Rational}
pub use Rattle.plan_model.specs.declared.geometry.Point.{Point}
pub use Rattle.plan_model.specs.declared.geometry.Vertex.{Vertex}
pub use Rattle.plan_model.specs.declared.limits.TheConstants.{LEAST_CORNER_COORDINATE, MOST_CORNER_COORDINATE}
pub use Rattle.plan_model.specs.Terms.{IsTrue, List, le_refl, list_all}
