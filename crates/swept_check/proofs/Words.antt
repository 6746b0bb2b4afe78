-- The definitions and lemmas that proofs of this crate are about, passed on from one place. Declares nothing.
pub use Rattle.convex_sets.proofs.BoxLaws.{in_range}
pub use Rattle.convex_sets.proofs.ConvexPolygons.{IsConvex}
pub use Rattle.convex_sets.specs.Boxes.{IsBoundingBox, boxes_meet, corner_of, segment_box}
pub use Rattle.convex_sets.specs.declared.bounding_boxes.BoundingBox.{BoundingBox}
pub use Rattle.plan_model.proofs.Ring.{minus, plus, same, times, var}
pub use Rattle.plan_model.proofs.SceneBounds.{IsBounded-room, clearance-counted, corners-summands}
pub use Rattle.plan_model.proofs.SegmentLaws.{Clear-first, Clear-last, part_and_rest}
pub use Rattle.plan_model.proofs.SpanLaws.{InRoom-from_spans, IsInSpans-from_in_room}
pub use Rattle.plan_model.proofs.Tests.{true_at}
pub use Rattle.plan_model.specs.Geometry.Plane.{IsBounded, corner_at, next_corner, orientation}
pub use Rattle.plan_model.specs.Scenes.Limits.{are_obstacles, is_corner_between, is_obstacle}
pub use Rattle.plan_model.specs.Scenes.MarkPoints.{AreSpansOf, IsInSpan}
pub use Rattle.plan_model.specs.Spaces.Clearance.{Clear, on_the_way}
pub use Rattle.plan_model.specs.Spaces.ConfigurationSpace.{InRoom, at_lattice, space_of}
pub use Rattle.plan_model.specs.Spaces.Zones.{IsInside, IsZoneOf, Meets, side_of}
pub use Rattle.plan_model.specs.declared.configuration_spaces.ConfigurationSpace.{ConfigurationSpace}
pub use Rattle.plan_model.specs.declared.geometry.Point.{Point}
pub use Rattle.plan_model.specs.declared.geometry.Vertex.{Vertex}
pub use Rattle.plan_model.specs.declared.limits.TheConstants.{LEAST_SUMMAND_COORDINATE, MOST_OBSTACLES, MOST_SUMMAND_COORDINATE}
pub use Rattle.plan_model.specs.declared.scenes.Scene.{Scene}
pub use Rattle.plan_model.specs.declared.spans.RoomSpans.{RoomSpans}
pub use Rattle.std.proofs.Common.{All, Bool, List, [], arith, false, get_or, inl, inr, length, length-append, nat_le, of_z, refl, rules, subst, suc, sym, to_z}
pub use Rattle.std.proofs.Common.{true, w64, ℕ, ◌*◌, ◌++◌, ◌+◌, ◌-◌, ◌<◌, ◌∙◌, ◌∷◌, ◌≡◌, ◌≤◌}
pub use Rattle.std.proofs.Math.Nat.{le_of_mul-le-mul_right, mul-le-mul_right, mul-pos}
pub use Rattle.std.proofs.lemmas.Bool.{and_from, and_parts, cases_lt}
pub use Rattle.std.proofs.lemmas.Int.{ints}
pub use Rattle.std.proofs.lemmas.List.{get_or_append_left, get_or_default, get_or_push}
pub use Rattle.std.proofs.lemmas.List.Elements.{All-from_get_or, All-get_or}
pub use Rattle.std.specs.List.{list_all}
pub use Rattle.std.specs.Prelude.{IsTrue, int_le, max, min, negsuc, pos, unsigned_abs, ℤ, ◌*ℤ◌, ◌+ℤ◌, ◌-ℤ◌, ◌<ℤ◌, ◌↔◌, ◌≤ℤ◌}
pub use Rattle.swept_check.specs.Crossings.{AreZonesOf, Crosses, IsAdmitted, IsBetweenFractions, value_at}
pub use Rattle.swept_check.specs.declared.fractions.Fraction.{Fraction}
