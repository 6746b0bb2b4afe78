-- The definitions and lemmas that proofs of this crate are about, passed on from one place. Declares nothing.
pub use Rattle.convex_sets.specs.Boxes.{AreBoundedCorners, IsBoundedCorner, IsBoundingBox, IsBoxed, IsInBox, IsWidenedBy, at_corner, corner, corner_of}
pub use Rattle.convex_sets.specs.Boxes.{square}
pub use Rattle.convex_sets.specs.Outlines.{IsMergeStep, IsMerged, IsOutline, IsOutlineOf, IsSum, IsTurned, both, cross, edge_at, from_to, is_end_or_left}
pub use Rattle.convex_sets.specs.Outlines.{places_after, reflection, rise, start}
pub use Rattle.convex_sets.specs.declared.bounding_boxes.BoundingBox.{BoundingBox}
pub use Rattle.plan_model.proofs.MeetingLaws.{Meets-shares_point, SharesPoint-meets}
pub use Rattle.plan_model.proofs.Ring.{Read, minus, opposite, plus, same, times, var}
pub use Rattle.plan_model.proofs.Tests.{false_below, last_true, one_true, true_at, true_below, true_of_all, true_of_below}
pub use Rattle.plan_model.specs.Geometry.Plane.{corner_at, is_left_of_edge, is_strictly_convex, next_corner, orientation}
pub use Rattle.plan_model.specs.Scenes.Limits.{is_corner_between}
pub use Rattle.plan_model.specs.Spaces.Zones.{IsInside, IsLowerOrLeft, IsWithin, IsZoneOf, Meets, side_of, weighted}
pub use Rattle.plan_model.specs.Spaces.ConfigurationSpace.{Rational, at_lattice}
pub use Rattle.plan_model.specs.declared.geometry.Point.{Point}
pub use Rattle.plan_model.specs.declared.geometry.Vertex.{Vertex}
pub use Rattle.plan_model.specs.declared.limits.TheConstants.{LEAST_BODY_COORDINATE, LEAST_CORNER_COORDINATE, LEAST_SUMMAND_COORDINATE, MOST_BODY_COORDINATE}
pub use Rattle.plan_model.specs.declared.limits.TheConstants.{MOST_CLEARANCE, MOST_CORNER_COORDINATE, MOST_SUMMAND_COORDINATE}
pub use Rattle.std.proofs.Common.{Bool, List, MatchBool, [], ap, arith, cond, eq-eqb, false, inl, inr, length, map, nat_le, of_z, refl, rules, subst, suc}
pub use Rattle.std.proofs.Common.{sym, take, to_z, true, w32, w64, zero, ℕ, ◌&&◌, ◌*◌, ◌++◌, ◌+◌, ◌-◌, ◌<◌, ◌==◌, ◌||◌, ◌∙◌, ◌∷◌, ◌≡◌, ◌≢◌, ◌≤◌, ◌⊎◌}
pub use Rattle.std.proofs.Math.IntN.{*ℤ_comm}
pub use Rattle.std.proofs.Math.ListN.{get_or-append, length-append}
pub use Rattle.std.proofs.Math.Nat.{mul-pos}
pub use Rattle.std.proofs.Math.Seq.{get_or-append_seam}
pub use Rattle.std.proofs.lemmas.Bool.{and_from, and_parts, cases_eq, cases_lt, eqb-true, le-ltb, leb-true, lt-ltb, ne_eqb}
pub use Rattle.std.proofs.lemmas.Grind.{common_steps}
pub use Rattle.std.proofs.lemmas.Int.{by_lt_z, clamps, ints}
pub use Rattle.std.proofs.lemmas.List.{get_or-map, length-map}
pub use Rattle.std.proofs.lemmas.List.Sums.{sum_by-cons}
pub use Rattle.std.proofs.lemmas.Nat.{mul-le}
pub use Rattle.std.specs.Int.{int_max, int_min}
pub use Rattle.std.specs.List.{list_all, range_with_len}
pub use Rattle.std.specs.Prelude.{int_le, int_lt, neg_ℤ, negsuc, pos, sum, ℤ, ◌*ℤ◌, ◌+ℤ◌, ◌-ℤ◌, ◌<ℤ◌, ◌≤ℤ◌}
