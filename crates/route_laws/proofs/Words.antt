-- The definitions and lemmas that proofs of this crate are about, passed on from one place. Declares nothing.
pub use Rattle.route_laws.specs.Routes.{AreHandledInTurn, AreLinks, EndApart, EndsAtNode, HasClearDisc, HasGoalNode, HasNodeAt, IsChain, IsChainInOrder}
pub use Rattle.route_laws.specs.Routes.{IsFartherFrom, IsHandledAfter, IsInDisc, IsLinkInOrder, IsNearLink, IsOpenLink, IsReached, IsRoute, KeepsBodyFar}
pub use Rattle.route_laws.specs.Routes.{KeepsFromWalls, Rise, ShowsPath, cost_of_chain, cost_of_route, end_of, ends_same, gap_from, least_radius}
pub use Rattle.route_laws.specs.Routes.{obstacle_less_body}
pub use Rattle.std.proofs.Common.{Bool, List, None, Option, Some, [], ap, append_assoc, arith, cond, eqb, false, inl, inr, leb, length, ltb, map, refl, subst}
pub use Rattle.std.proofs.Common.{suc, sym, true, zero, ℕ, ◌*◌, ◌++◌, ◌+◌, ◌-◌, ◌<◌, ◌^◌, ◌∙◌, ◌∷◌, ◌≡◌, ◌≤◌, ◌⊎◌}
pub use Rattle.std.proofs.Math.Nat.{le_of_mul-le-mul_left, le_refl, pow-le-pow_right}
pub use Rattle.std.proofs.Math.Seq.{get_or-append_seam}
pub use Rattle.std.proofs.lemmas.Bool.{and_from, cases_lt, cases_order, eq-eqb, le-leb, leb-true, lt-ltb, true≢false}
pub use Rattle.std.proofs.lemmas.Int.{ints, unsigned_abs-mul}
pub use Rattle.std.proofs.lemmas.List.{append-nil, get_or_append_left, length-append, length-map}
pub use Rattle.std.proofs.lemmas.List.Elements.{All-cons, All-contains, All-nil, All-weaker}
pub use Rattle.std.proofs.lemmas.List.FromFn.{length-range_with_len}
pub use Rattle.std.proofs.lemmas.List.Sums.{count_by-le-length}
pub use Rattle.std.proofs.lemmas.Nat.{mul-le}
pub use Rattle.std.specs.Int.{abs_diff}
pub use Rattle.std.specs.List.{range_with_len}
pub use Rattle.std.specs.Prelude.{All, Contains, IsSome, IsTrue, neg_ℤ, negsuc, option_map, pos, slice_get, unsigned_abs, ℤ, ◌&&◌, ◌*ℤ◌, ◌+ℤ◌, ◌-ℤ◌, ◌≤ℤ◌}
