-- The definitions and lemmas that proofs of this crate are about, passed on from one place. Declares nothing.
pub use Rattle.convex_sets.proofs.BoxLaws.{IsInRange, in_range}
pub use Rattle.convex_sets.proofs.ConvexPolygons.{IsConvex, IsConvex-from_test}
pub use Rattle.convex_sets.proofs.Fans.{inside_at}
pub use Rattle.convex_sets.specs.Boxes.{IsBoundingBox, at_corner, boxes_meet, segment_box}
pub use Rattle.convex_sets.specs.declared.bounding_boxes.BoundingBox.{BoundingBox}
pub use Rattle.obstacle_boxes.specs.Trees.{Adds, AreApartBelow, AreLeavesOf, AreZoneBoxes, CrossesSome, HasSearched, Holds, HoldsAll, IsAbove, IsLeafAmong}
pub use Rattle.obstacle_boxes.specs.Trees.{IsMissed, IsTree, IsTreeOver, leaf_of, leaves_in, leaves_met, near_count}
pub use Rattle.obstacle_boxes.specs.declared.box_nodes.Node.{Node}
pub use Rattle.obstacle_boxes.specs.declared.box_nodes.Node.TheVariants.{Halves, Zone}
pub use Rattle.obstacle_boxes.specs.declared.leaves.Leaf.{Leaf}
pub use Rattle.plan_model.proofs.Ring.{minus, same, times, var}
pub use Rattle.plan_model.specs.Geometry.Plane.{corner_at, next_corner, orientation}
pub use Rattle.plan_model.specs.Spaces.Clearance.{Clear, on_the_way}
pub use Rattle.plan_model.specs.Spaces.Zones.{IsInside, IsZoneOf}
pub use Rattle.plan_model.specs.Spaces.ConfigurationSpace.{InRoom, at_lattice}
pub use Rattle.plan_model.specs.declared.configuration_spaces.ConfigurationSpace.{ConfigurationSpace}
pub use Rattle.plan_model.specs.declared.geometry.Point.{Point}
pub use Rattle.plan_model.specs.declared.geometry.Vertex.{Vertex}
pub use Rattle.std.proofs.Common.{Bool, List, [], append_assoc, arith, cond, drop, eqb, false, get_or, inl, inr, length, length-append, refl, rules, subst, suc}
pub use Rattle.std.proofs.Common.{sym, take, take-take, true, ℕ, ◌&&◌, ◌++◌, ◌+◌, ◌-◌, ◌<◌, ◌↔◌, ◌∙◌, ◌∷◌, ◌≡◌, ◌≤◌}
pub use Rattle.std.proofs.lemmas.Bool.{and_from, and_parts, cases_lt, eqb-false, eqb-true}
pub use Rattle.std.proofs.lemmas.Int.{ints}
pub use Rattle.std.proofs.lemmas.List.{append-nil, drop-append-le, drop_at, drop_more, get_or_append_left, get_or_default, get_or_push, length-take-le}
pub use Rattle.std.proofs.lemmas.List.{take-append-drop, take-append-le, take_all, take_more}
pub use Rattle.std.proofs.lemmas.List.Elements.{All-append, All-cons, All-drop, All-from_get_or, All-get_or, All-head, All-more, All-tail, All-weaker}
pub use Rattle.std.proofs.lemmas.List.Elements.{filter_map-append}
pub use Rattle.std.proofs.lemmas.List.Sorted.{All-permutation, IsPermutation-sym, length_permutation, sum_by-IsPermutation}
pub use Rattle.std.proofs.lemmas.List.Sums.{sum_by-append, sum_by-cons}
pub use Rattle.std.specs.Prelude.{All, IsPermutation, IsTrue, count_by, int_le, pos, ℤ, ◌≤ℤ◌}
pub use Rattle.swept_check.proofs.BoxRejects.{meets-crossed}
pub use Rattle.swept_check.proofs.HallLaws.{CrossesNone, CrossesNone-clear, clear_of, first_in_room, last_in_room}
pub use Rattle.swept_check.specs.Crossings.{AreZonesOf, Crosses}
