-- A node was placed at a cost of 44 bits.
use Rattle.report_judge.proofs.Words.{◌≡◌, ℕ, zero, suc, ◌<◌, ◌^◌, List, Option, Some, None, arith, refl, slice_get, Record, Knot, first_cost_of, recorded_or}
use Rattle.report_judge.proofs.Words.{state_of_lists, FitFirstCosts}

pub first_cost_low : (knots : List (Option Knot)) (records : List Record) → FitFirstCosts records → (n : ℕ)
    → first_cost_of (state_of_lists knots records) n < 2 ^ 44
first_cost_low knots records fit zero = omega arith
first_cost_low knots records fit (suc k) = by_record (slice_get records k) refl
  where
    by_record : (o : Option Record) → slice_get records k ≡ o → recorded_or 0 o < 2 ^ 44
    by_record None e = omega arith
    by_record (Some entry) e = fit k entry e
