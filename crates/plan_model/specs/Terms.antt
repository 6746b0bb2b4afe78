-- What the definitions here say of the crates below and of the types of this one, passed on from one place. Declares nothing.
pub use Rattle.std.proofs.Math.Nat.{le-suc, le_refl, mul-pos}
pub use Rattle.std.specs.Fmt.{signed_decimal}
pub use Rattle.std.specs.Int.{abs_diff}
pub use Rattle.std.specs.List.{join_with_byte, list_all, list_any, range_with_len}
pub use Rattle.std.specs.Option.{option_or}
pub use Rattle.std.specs.Prelude.{All, Contains, Err, IsTrue, List, None, Option, [], bytes_eq, codes, count_by, drop, filter, fold, get_or, length, map}
pub use Rattle.std.specs.Prelude.{refl, ℕ}
pub use Rattle.plan_model.specs.declared.configuration_spaces.ConfigurationSpace.{ConfigurationSpace}
pub use Rattle.plan_model.specs.declared.errors.Failed.{Failed}
pub use Rattle.plan_model.specs.declared.geometry.Goal.{Goal}
pub use Rattle.plan_model.specs.declared.geometry.Point.{Point}
pub use Rattle.plan_model.specs.declared.geometry.Vertex.{Vertex}
pub use Rattle.plan_model.specs.declared.limits.TheConstants.{LEAST_BODY_COORDINATE, LEAST_CORNERS, LEAST_CORNER_COORDINATE, LEAST_OBSTACLE_COORDINATE}
pub use Rattle.plan_model.specs.declared.limits.TheConstants.{LEAST_OBSTACLE_COORDINATE_OF_VERSION_2, LEAST_SIDE, LEAST_STEP, LEAST_STRIPS}
pub use Rattle.plan_model.specs.declared.limits.TheConstants.{LEAST_SUMMAND_COORDINATE, MOST_BODY_COORDINATE, MOST_BODY_CORNERS, MOST_CLEARANCE}
pub use Rattle.plan_model.specs.declared.limits.TheConstants.{MOST_COORDINATE, MOST_CORNER_COORDINATE, MOST_GAMMA, MOST_GOALS, MOST_MARKS, MOST_NODES}
pub use Rattle.plan_model.specs.declared.limits.TheConstants.{MOST_OBSTACLES, MOST_OBSTACLE_COORDINATE, MOST_OBSTACLE_COORDINATE_OF_VERSION_2}
pub use Rattle.plan_model.specs.declared.limits.TheConstants.{MOST_OBSTACLE_CORNERS, MOST_SCENES, MOST_SEED, MOST_SIDE, MOST_SIDE_OF_VERSION_2}
pub use Rattle.plan_model.specs.declared.limits.TheConstants.{MOST_STEERING_STEP, MOST_STEP, MOST_STEP_OF_VERSION_2, MOST_STRIPS, MOST_SUMMAND_COORDINATE}
pub use Rattle.plan_model.specs.declared.limits.TheConstants.{MOST_TEXT_BYTES, MOST_WORKERS}
pub use Rattle.plan_model.specs.declared.records.Outcome.{Outcome}
pub use Rattle.plan_model.specs.declared.records.Outcome.TheVariants.{Blocked, Placed, Same, Skipped}
pub use Rattle.plan_model.specs.declared.scenes.Marks.{Marks}
pub use Rattle.plan_model.specs.declared.scenes.Marks.TheVariants.{Drawn, Listed}
pub use Rattle.plan_model.specs.declared.spans.RoomSpans.{RoomSpans}
pub use Rattle.plan_model.specs.declared.spans.Span.{Span}
pub use Rattle.plan_model.specs.declared.text_terms.Key.{Key}
pub use Rattle.plan_model.specs.declared.text_terms.Kind.{Kind}
pub use Rattle.plan_model.specs.declared.trees.Knot.{Knot}
pub use Rattle.plan_model.specs.declared.trees.Twig.{Twig}
