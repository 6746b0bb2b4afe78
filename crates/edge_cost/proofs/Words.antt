-- The definitions and lemmas that proofs of this crate are about, passed on from one place. Declares nothing.
pub use Rattle.edge_cost.specs.declared.roots.TheConstants.{MOST_ROOT}
pub use Rattle.plan_model.proofs.GoalBoundLaws.{bound_of-is, cost_of-le, squared_distance-le}
pub use Rattle.plan_model.proofs.GoalPoints.{in_goal_parts}
pub use Rattle.plan_model.proofs.RadiusLaws.{greatest-unique}
pub use Rattle.plan_model.proofs.RootLaws.{lt-from_squares, root_ceiling-from_squares, root_ceiling-is, root_ceiling-unique}
pub use Rattle.plan_model.proofs.SteeringLaws.{IsStep-partial}
pub use Rattle.plan_model.specs.Geometry.Plane.{IsBounded, IsBoundedBox, squared_distance}
pub use Rattle.plan_model.specs.Geometry.Lengths.{IsRootCeiling, cost_of, radius_of_class}
pub use Rattle.plan_model.specs.Trees.BestNode.{is_in_goal, lies_in_goals}
pub use Rattle.plan_model.specs.declared.geometry.Goal.{Goal}
pub use Rattle.plan_model.specs.declared.geometry.Point.{Point}
pub use Rattle.std.proofs.Common.{List, ap, arith, get_or, inl, inr, length, nat_le, slice_index, subst, sym, take, ℕ, ◌*◌, ◌+◌, ◌-◌, ◌/◌, ◌<◌, ◌^◌, ◌∙◌, ◌≡◌}
pub use Rattle.std.proofs.Common.{◌≤◌}
pub use Rattle.std.proofs.Math.Nat.{div-mul-le_self}
pub use Rattle.std.proofs.lemmas.Bool.{cases_lt}
pub use Rattle.std.proofs.lemmas.Bool.Decides.{nat_tests}
pub use Rattle.std.proofs.lemmas.List.{take_all}
pub use Rattle.std.proofs.lemmas.List.Elements.{All-more, All-weaker}
pub use Rattle.std.proofs.lemmas.List.Folds.{Any-from_list_any, list_any_at}
pub use Rattle.std.proofs.lemmas.Nat.{le-div, mul-le, pow_below, pow_pos}
pub use Rattle.std.specs.Int.{abs_diff}
pub use Rattle.std.specs.Prelude.{All, IsTrue, max, min}
