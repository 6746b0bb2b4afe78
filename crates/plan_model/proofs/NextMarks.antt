-- The next mark of a closed run: if the tree has grown in the order law and the new record is lawful, the run with it is closed.
use Rattle.plan_model.proofs.Words.{◌≡◌, ℕ, suc, ◌<◌, ◌≤◌, Bool, false, List, length, Some, None, arith, sym, ap, ◌∙◌, subst, inl, inr, ◌≢◌, ◌↔◌, ◌⊎◌, is_some}
use Rattle.plan_model.proofs.Words.{range_with_len, cases_eq, cases_lt, true≢false, length-filter, Point, MOST_WORKERS, Outcome, Placed, Record, Reached}
use Rattle.plan_model.proofs.Words.{SameNode, NoWay, ending_as, Clear, IsPresent, StandsAt, point_of, node_count, steered, TreeState, GrowsInto, KeepsOrder}
use Rattle.plan_model.proofs.Words.{is_placed, is_earlier, IsEarlier, earlier_count, IsSkippedLawfully, IsSteeredLawfully, ReachesLawfully, HasLawfulEnding}
use Rattle.plan_model.proofs.Words.{IsLawfulRecord, mark_at, IsClosed, Setup, MayBeCheaper, SteersTo, EndsBlocked, turns_of}
use Rattle.plan_model.proofs.ClosedLaws.{KeepsFirstCosts-closed}
use Rattle.plan_model.proofs.GoalNodes.{IsGoalNode-before}
use Rattle.plan_model.proofs.NodeCounts.{count-le_node_count}
use Rattle.plan_model.proofs.TreeStateLaws.{IsPresent-grows, point_of-grows, StandsAt-before}
use Rattle.plan_model.proofs.OrderLaws.{start-present}
use Rattle.plan_model.proofs.LoweredCosts.{AddsRecord, LowersCosts, LowersCosts-adds_record, GrowsInto-lowered, KeepsOrder-lowered}
use Rattle.plan_model.proofs.EarlierNodes.{earlier-present, HaveSameEarlier, is_earlier-same}
use Rattle.plan_model.proofs.PlacedNodes.{record-of_present, present-of_record, ArePlacedMarks-from}
use Rattle.plan_model.proofs.RecordLaws.{IsNotAbove-grows, IsSkippedLawfully-grows, IsLawfulRecord-grows}
use Rattle.plan_model.proofs.NextRecords.{RecordsMark, new_or_recorded, AreRecordedBelow-next}
use Rattle.plan_model.proofs.WorkerTurns.{turn-below, AreTurns-next}

-- What the end of mark k leaves: the tree has grown in the order law, and the new record is lawful. If it was placed its node is
-- there, and no other node is new.
pub record EndsLawfully (setup : Setup) (before after : TreeState) (k : ℕ) (mark : Point) (entry : Record) : Type 0 where
  pub records : RecordsMark before.record_of after.record_of k entry
  pub order : KeepsOrder setup after
  pub grows : GrowsInto before after
  pub lawful : IsLawfulRecord setup after k mark entry
  pub others : (j : ℕ) → j ≢ k → IsPresent after.points (suc j) → IsPresent before.points (suc j)
  pub own : IsPresent after.points (suc k) ↔ (entry.outcome ≡ Placed)

module _ (setup : Setup) (marks : List Point) (k : ℕ) (before : TreeState) (closed : IsClosed setup marks k before) where
  -- a mark with a record is below the limit
  pub recorded_below : (j : ℕ) (own : Record) → before.record_of j ≡ Some own → j < k
  recorded_below j own h =
      elim (cases_lt j k) [
        | inl below ↦ below
        | inr past ↦ (let none = sym (closed.records.none_else j past) ∙ h in cc)
      ]

  -- the next mark has no record, and no node
  pub record-absent : before.record_of k ≡ None
  record-absent = closed.records.none_else k (omega arith)

  pub node-absent : ¬ IsPresent before.points (suc k)
  node-absent h =
      let own = record-of_present before closed.placed k h in
      let none = sym record-absent ∙ own.1 in
      cc

  module _ (after : TreeState) (entry : Record) where
    -- ---- closing

    module _ (ends : EndsLawfully setup before after k (mark_at marks k) entry) (turn : entry.turn ≡ turns_of before.record_of k entry.worker) where
      -- no other record of the worker has the turn
      turn_is_new : (j : ℕ) (own : Record) → before.record_of j ≡ Some own → own.worker ≡ entry.worker → own.turn < entry.turn
      turn_is_new j own h worker =
          let below = turn-below before.record_of k closed.turns j own (recorded_below j own h) h in
          omega (arith, below, turn, ap (turns_of before.record_of k) worker)

      -- the earlier nodes of the other records stay the same
      same_earlier : (j : ℕ) (own : Record) → before.record_of j ≡ Some own → HaveSameEarlier before after own
      same_earlier j own h = record {
        same =
            is_earlier-same before after k entry own ends.records later;
        present = earlier-present before own (start-present setup before closed.order) closed.placed;
      }
        where
          later : (entry.worker ≢ own.worker) ⊎ (own.turn ≤ entry.turn)
          later =
              elim (cases_eq entry.worker own.worker) [
                | inl e ↦ (
                    let less = turn_is_new j own h (sym e) in
                    inr (omega (arith, less)))
                | inr apart ↦ inl apart
              ]

      lawful_next : (j : ℕ) (own : Record) → after.record_of j ≡ Some own → IsLawfulRecord setup after j (mark_at marks j) own
      lawful_next j own h =
          elim (new_or_recorded before.record_of after.record_of k entry ends.records j own h) [
            | inl new ↦ (
                let of_own : IsLawfulRecord setup after k (mark_at marks k) own =
                subst (λ r. IsLawfulRecord setup after k (mark_at marks k) r) (sym new.1) ends.lawful in
                subst (λ n. IsLawfulRecord setup after n (mark_at marks n) own) (sym new.0) of_own)
            | inr old ↦
                IsLawfulRecord-grows setup before after ends.grows own (same_earlier j own old) j (mark_at marks j) (closed.lawful j own old)
          ]

      worker_next : entry.worker < MOST_WORKERS → (j : ℕ) (own : Record) → after.record_of j ≡ Some own → own.worker < MOST_WORKERS
      worker_next few j own h =
          elim (new_or_recorded before.record_of after.record_of k entry ends.records j own h) [
            | inl new ↦ subst (λ r. r.worker < MOST_WORKERS) (sym new.1) few
            | inr old ↦ closed.workers j own old
          ]

      placed_to : (j : ℕ) → IsPresent after.points (suc j) → (own : Record) × (after.record_of j ≡ Some own) × (own.outcome ≡ Placed)
      placed_to j h =
          elim (cases_eq j k) [
            | inl e ↦ (
              entry,
              ap after.record_of e ∙ ends.records.recorded,
              ends.own.0 (subst (λ n. IsPresent after.points (suc n)) e h),
            )
            | inr apart ↦ (
                let old = record-of_present before closed.placed j (ends.others j apart h) in
                (old.0, ends.records.others j apart ∙ old.1, old.2))
          ]

      placed_from : (j : ℕ) → (own : Record) × (after.record_of j ≡ Some own) × (own.outcome ≡ Placed) → IsPresent after.points (suc j)
      placed_from j (own, h, placed) =
          elim (new_or_recorded before.record_of after.record_of k entry ends.records j own h) [
            | inl new ↦ (
                let present = ends.own.1 (sym (ap (λ r. r.outcome) new.1) ∙ placed) in
                subst (λ n. IsPresent after.points (suc n)) (sym new.0) present)
            | inr old ↦ IsPresent-grows before after ends.grows (suc j) (present-of_record before closed.placed j own old placed)
          ]

      -- A closed run whose next mark ends lawfully is closed at the next limit.
      pub IsClosed-next : k < length marks → entry.worker < MOST_WORKERS → IsClosed setup marks (suc k) after
      IsClosed-next below few = record {
        order = ends.order;
        within = below;
        records = AreRecordedBelow-next before.record_of after.record_of k entry ends.records closed.records;
        workers = worker_next few;
        turns = AreTurns-next before.record_of after.record_of k entry ends.records recorded_below closed.turns turn;
        lawful = lawful_next;
        placed = ArePlacedMarks-from after (λ j. (placed_to j, placed_from j));
      }

    -- ---- the new record

    module _ (records : RecordsMark before.record_of after.record_of k entry) (grows : GrowsInto before after) where
      -- what stood earlier by the records was present
      pub early-present : (i : ℕ) → IsEarlier after entry i → IsPresent before.points i
      early-present i h =
          let same = is_earlier-same before after k entry entry records (inr (omega arith)) i in
          earlier-present before entry (start-present setup before closed.order) closed.placed i (sym same ∙ h)

      pub earlier_count-le : earlier_count after entry ≤ node_count before.points
      earlier_count-le =
          let early : ℕ → Bool = is_earlier after entry in
          omega (
            arith,
            length-filter early (range_with_len 0 (length after.points)),
            count-le_node_count before.points early (length after.points) early-present,
          )

      -- A mark is steered lawfully if a path over it might be cheaper, and what was reached at the point to which it steers is what it says.
      pub IsSteeredLawfully-steers :
          (mark p : Point) (m : ℕ) (reached : Reached) → MayBeCheaper setup before.cost before.points mark → SteersTo setup before.points mark m p
          → ReachesLawfully setup after k entry m reached p → IsSteeredLawfully setup after k mark entry m reached
      IsSteeredLawfully-steers mark p m reached cheaper steers h =
          let same = point_of-grows before after grows m steers.nearest.member in
          let point : p ≡ steered (point_of after.points m) mark setup.step =
          steers.reached ∙ ap (λ a. steered a mark setup.step) (sym same) in
          record {
            cheaper = λ i early goal.
                let here = early-present i early in
                let kept = (KeepsFirstCosts-closed setup marks k before closed).kept i here in
                omega (arith, cheaper i (IsGoalNode-before setup.goals before after grows i here goal), kept, grows.first_costs i here);
            present = IsPresent-grows before after grows m steers.nearest.member;
            nearest = λ i early.
                let here = early-present i early in
                IsNotAbove-grows before after grows mark m i steers.nearest.member here (steers.nearest.not_above i here);
            outcome = subst (ReachesLawfully setup after k entry m reached) point h;
          }

    -- ---- marks that are not placed

    module _ (mark : Point) (adds : AddsRecord before after k entry) where
      lowers : LowersCosts setup before after
      lowers = LowersCosts-adds_record setup before after k entry closed.order adds

      grows_unplaced : GrowsInto before after
      grows_unplaced = GrowsInto-lowered setup before after lowers

      records_unplaced : RecordsMark before.record_of after.record_of k entry
      records_unplaced = record { absent = adds.absent; recorded = adds.recorded; others = adds.records }

      -- A mark that is not placed ends lawfully if its end is what it says.
      pub EndsLawfully-unplaced :
          (outcome : Outcome) → entry.outcome ≡ outcome → is_placed outcome ≡ false → HasLawfulEnding setup after k mark entry (ending_as entry outcome)
          → EndsLawfully setup before after k mark entry
      EndsLawfully-unplaced outcome e unplaced lawful = record {
        records = records_unplaced;
        order = KeepsOrder-lowered setup before after lowers closed.order;
        grows = grows_unplaced;
        lawful = subst (λ o. HasLawfulEnding setup after k mark entry (ending_as entry o)) (sym e) lawful;
        others = λ j apart present. ap is_some (sym (lowers.still.points (suc j))) ∙ present;
        own = (
          (λ present. absurd (node-absent (ap is_some (sym (lowers.still.points (suc k))) ∙ present))),
          (λ placed. absurd (true≢false (sym (ap is_placed (sym e ∙ placed)) ∙ unplaced))),
        );
      }

      -- a mark is skipped lawfully if a goal node costs no more than its bound
      pub skipped_lawfully : (g : ℕ) → IsSkippedLawfully setup before mark g → IsSkippedLawfully setup after mark g
      skipped_lawfully g h = IsSkippedLawfully-grows setup before after grows_unplaced mark g h

      module _ (p : Point) (m : ℕ) (cheaper : MayBeCheaper setup before.cost before.points mark) (steers : SteersTo setup before.points mark m p) where
        -- it ends lawfully where a node stands,
        pub same_lawfully : (j : ℕ) → StandsAt before.points j p → IsSteeredLawfully setup after k mark entry m (SameNode j)
        same_lawfully j h =
            IsSteeredLawfully-steers records_unplaced grows_unplaced mark p m (SameNode j) cheaper steers (grows_unplaced.nodes j p h)

        -- and where it is blocked
        pub blocked_lawfully : EndsBlocked setup.space before.points m p → IsSteeredLawfully setup after k mark entry m NoWay
        blocked_lawfully h = IsSteeredLawfully-steers records_unplaced grows_unplaced mark p m NoWay cheaper steers (record {
          blocked = λ clear.
              let same = point_of-grows before after grows_unplaced m steers.nearest.member in
              h.blocked (subst (λ a. Clear setup.space a p) same clear);
          free = λ i early stands.
              let here = early-present records_unplaced grows_unplaced i early in
              h.free i (StandsAt-before before after grows_unplaced i p here stands);
        })
