-- A closed run stays closed when costs are lowered, as in settling; and in it no node costs more than it was placed at.
use Rattle.plan_model.proofs.Words.{◌≡◌, ℕ, zero, suc, ◌≤◌, List, Some, arith, sym, ap, ◌∙◌, subst, is_some, Point, Placed, Record, IsPresent, point_of}
use Rattle.plan_model.proofs.Words.{node_count, steered, TreeState, recorded_or, first_cost_of, most_cost_of, KeepsFirstCosts, HasLawfulEnding}
use Rattle.plan_model.proofs.Words.{IsPlacedLawfully, ending_as, first_hanging, mark_at, has_outcome, IsClosed, is_placed, Setup}
use Rattle.plan_model.proofs.OrderLaws.{start-present}
use Rattle.plan_model.proofs.LoweredCosts.{LowersCosts, GrowsInto-lowered, KeepsOrder-lowered, HaveSameTree}
use Rattle.plan_model.proofs.LoweredCosts.{LowersCosts-same}
use Rattle.plan_model.proofs.EarlierNodes.{earlier-present, HaveSameEarlier, is_earlier-same_records}
use Rattle.plan_model.proofs.RecordLaws.{IsLawfulRecord-grows}
use Rattle.plan_model.proofs.PlacedNodes.{record-of_present}
use Rattle.plan_model.proofs.WorkerTurns.{AreTurns-same}

-- ---- lowered costs

module _
    (setup : Setup) (marks : List Point) (limit : ℕ) (before after : TreeState) (same : (k : ℕ) → after.record_of k ≡ before.record_of k)
    (closed : IsClosed setup marks limit before) where
  same_earlier : (entry : Record) → HaveSameEarlier before after entry
  same_earlier entry = record {
    same = is_earlier-same_records before after entry same;
    present = earlier-present before entry (start-present setup before closed.order) closed.placed;
  }

  -- A closed run with lowered costs and the same records is closed.
  pub IsClosed-lowered : LowersCosts setup before after → IsClosed setup marks limit after
  IsClosed-lowered lowers =
      let grows = GrowsInto-lowered setup before after lowers in
      record {
        order = KeepsOrder-lowered setup before after lowers closed.order;
        within = closed.within;
        records = record {
          recorded = λ k below. ap is_some (same k) ∙ closed.records.recorded k below;
          none_else = λ k past. same k ∙ closed.records.none_else k past;
        };
        workers = λ k entry h. closed.workers k entry (sym (same k) ∙ h);
        turns = AreTurns-same before.record_of after.record_of limit (λ k low. same k) closed.turns;
        lawful = λ k entry h.
            IsLawfulRecord-grows setup before after grows entry (same_earlier entry) k (mark_at marks k) (closed.lawful k entry (sym (same k) ∙ h));
        placed = λ k. ap is_some (lowers.still.points (suc k)) ∙ closed.placed k ∙ sym (ap (has_outcome is_placed) (same k));
      }

  -- and one with the same tree
  pub IsClosed-same : HaveSameTree before after → IsClosed setup marks limit after
  IsClosed-same same_tree = IsClosed-lowered (LowersCosts-same setup before after closed.order same_tree)

-- ---- first costs

module _ (setup : Setup) (marks : List Point) (limit : ℕ) (state : TreeState) (closed : IsClosed setup marks limit state) where
  -- what is lawful of a mark that was placed
  pub IsPlacedLawfully-closed :
      (k : ℕ) (entry : Record) → state.record_of k ≡ Some entry → entry.outcome ≡ Placed
      → IsPlacedLawfully setup state k entry entry.nearest (first_hanging entry) (steered (point_of state.points entry.nearest) (mark_at marks k) setup.step)
  IsPlacedLawfully-closed k entry h placed =
      let own = subst (λ o. HasLawfulEnding setup state k (mark_at marks k) entry (ending_as entry o)) placed (closed.lawful k entry h) in
      own.outcome

  -- In a closed run no node costs more than it was placed at.
  pub KeepsFirstCosts-closed : KeepsFirstCosts setup state
  KeepsFirstCosts-closed = record { kept = kept; bounded = bounded }
    where
      first_cost_is : (k : ℕ) (entry : Record) → state.record_of k ≡ Some entry → first_cost_of state (suc k) ≡ entry.first_cost
      first_cost_is k entry h = ap (recorded_or (state.written_cost (suc k))) h

      kept : (n : ℕ) → IsPresent state.points n → state.cost n ≤ first_cost_of state n
      kept zero h = omega (arith, closed.order.start_cost)
      kept (suc k) h =
          let own = record-of_present state closed.placed k h in
          omega (arith, (IsPlacedLawfully-closed k own.0 own.1 own.2).by_tree.kept, first_cost_is k own.0 own.1)

      bounded : (n : ℕ) → IsPresent state.points n → first_cost_of state n ≤ most_cost_of setup (node_count state.points)
      bounded zero h = omega arith
      bounded (suc k) h =
          let own = record-of_present state closed.placed k h in
          omega (arith, (IsPlacedLawfully-closed k own.0 own.1 own.2).by_tree.bounded, first_cost_is k own.0 own.1)
