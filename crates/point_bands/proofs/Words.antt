-- The definitions and lemmas that proofs of this crate are about, passed on from one place. Declares nothing.
pub use Rattle.plan_model.specs.Geometry.Plane.{IsBounded}
pub use Rattle.plan_model.specs.declared.geometry.Point.{Point}
pub use Rattle.point_bands.specs.Walks.{HasNoneBetween, IsInColumns, IsWithin, StandsBetween, band_key, lowest_row, nowhere, numbered_at}
pub use Rattle.point_bands.specs.declared.bands.Numbered.{Numbered}
pub use Rattle.std.proofs.Common.{All, List, ap, arith, bit_and, bit_or, inl, inr, min, rules, subst, sym, ℕ, ◌%◌, ◌*◌, ◌+◌, ◌/◌, ◌<◌, ◌^◌, ◌∙◌, ◌≡◌}
pub use Rattle.std.proofs.Math.Nat.{div-div-eq-div-mul, div-mul-le_self, mul-div_cancel}
pub use Rattle.std.proofs.Math.Pow.{shr_mono}
pub use Rattle.std.proofs.lemmas.Bool.{cases_eq, cases_lt}
pub use Rattle.std.proofs.lemmas.List.Sorted.{All-permutation, IsNonDecreasingBy-from_sort_by_key}
pub use Rattle.std.proofs.lemmas.Nat.{mul-le, or_shifted, pow-add, pow_pos}
pub use Rattle.std.proofs.lemmas.Nat.Bits.{and_high_mask}
pub use Rattle.std.specs.Int.{abs_diff}
pub use Rattle.std.specs.List.Sorted.{IsNonDecreasingBy}
pub use Rattle.std.specs.Prelude.{length, ◌-◌, ◌≤◌}
