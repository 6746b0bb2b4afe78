-- A node may hang by the list as it may hang in the tree of the list; and first costs by the records.
use Rattle.report_judge.proofs.Words.{◌≡◌, ℕ, zero, suc, ◌-◌, ◌*◌, ◌<◌, List, Option, arith, ap, slice_get, ConfigurationSpace, Record, Knot, Hangs, Setup}
use Rattle.report_judge.proofs.Words.{point_of, TreeState, first_cost_of, recorded_or, kept_cost_of, state_of_lists, MayHang}
use Rattle.report_judge.proofs.Laws.ListedNodes.{listed, point_of-listed, present-listed}

-- a later node's first cost is that of its mark's record
pub first_cost-recorded : (knots : List (Option Knot)) (records : List Record) (n : ℕ) → 0 < n
    → first_cost_of (state_of_lists knots records) n ≡ recorded_or 0 (slice_get records (n - 1))
first_cost-recorded knots records zero some = absurd (omega (arith, some))
first_cost-recorded knots records (suc k) some =
    let mark : k ≡ suc k - 1 = omega arith in
    ap (λ m. recorded_or 0 (slice_get records m)) mark

module _
    (knots : List (Option Knot)) (records : List Record) (setup : Setup) {space : ConfigurationSpace} (same_space : setup.space ≡ space)
    {squared_step : ℕ} (same_step : setup.step * setup.step ≡ squared_step) where
  abbrev run : TreeState
  run = state_of_lists knots records

  pub Hangs-listed : {n : ℕ} {place : Knot} → MayHang space squared_step knots n place → Hangs setup run n place.point place.parent place.cost
  Hangs-listed {place} h =
      let here : point_of run.points place.parent ≡ h.up.point = point_of-listed knots records place.parent h.up h.there in
      let cost : run.cost place.parent ≡ h.up.cost = ap kept_cost_of h.there in
      record {
        present = present-listed knots records place.parent h.up h.there;
        other = h.other;
        edge = record { clear = rw (same_space, here) h.edge.clear; short = rw (same_step, here) h.edge.short };
        above = rw (cost, here) h.edge.above;
      }

  pub listed-Hangs : {n : ℕ} (place : Knot) → Hangs setup run n place.point place.parent place.cost → MayHang space squared_step knots n place
  listed-Hangs place h =
      let up = listed knots records place.parent h.present in
      let here : point_of run.points place.parent ≡ up.knot.point = point_of-listed knots records place.parent up.knot up.at in
      let cost : run.cost place.parent ≡ up.knot.cost = ap kept_cost_of up.at in
      record {
        up = up.knot;
        there = up.at;
        other = h.other;
        edge = record {
          clear = rw (same_space, here) at h.edge.clear;
          short = rw (same_step, here) at h.edge.short;
          above = rw (cost, here) at h.above;
        };
      }
