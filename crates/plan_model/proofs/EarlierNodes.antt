-- The nodes that stood already when the worker of a record handled its mark: they stay the same, and as many.
use Rattle.plan_model.proofs.Words.{◌≡◌, ℕ, zero, suc, ◌<◌, ◌≤◌, Bool, true, false, eqb, ltb, Option, Some, None, length, refl, sym, ap, ◌∙◌, inl, inr, ◌≢◌}
use Rattle.plan_model.proofs.Words.{◌⊎◌, ◌&&◌, IsTrue, range_with_len, cases_eq, and_parts, and_left, and_right, ne_eqb, le-ltb, length-filter, Placed, Record}
use Rattle.plan_model.proofs.Words.{IsPresent, TreeState, GrowsInto, is_placed, is_earlier_record, is_earlier, IsEarlier, earlier_count, ArePlacedMarks}
use Rattle.plan_model.proofs.CountsBelow.{count-same, count-limits}
use Rattle.plan_model.proofs.DistinctPoints.{IsPresent-below}
use Rattle.plan_model.proofs.NextRecords.{RecordsMark}
use Rattle.plan_model.proofs.PlacedNodes.{is_placed-true, present-of_record}
use Rattle.plan_model.proofs.TreeStateLaws.{IsPresent-grows}

-- ---- earlier nodes are present

-- the record of an earlier mark is that of a placed one
earlier_placed : (entry : Record) (o : Option Record) → IsTrue (is_earlier_record entry o) → (other : Record) × (o ≡ Some other) × (other.outcome ≡ Placed)
earlier_placed entry None h = cc
earlier_placed entry (Some other) h =
    let placed = (and_parts (is_placed other.outcome) (eqb other.worker entry.worker && ltb other.turn entry.turn) h).0 in
    (other, refl, is_placed-true other.outcome placed)

-- if the present nodes are the start and those of the placed marks
pub earlier-present :
    (state : TreeState) (entry : Record) → IsPresent state.points 0 → ArePlacedMarks state → (n : ℕ) → IsEarlier state entry n → IsPresent state.points n
earlier-present state entry start placed zero h = start
earlier-present state entry start placed (suc k) h =
    let own = earlier_placed entry (state.record_of k) h in
    present-of_record state placed k own.0 own.1 own.2

-- ---- the same earlier nodes

-- The earlier nodes of a record are the same at both moments, and were present.
pub record HaveSameEarlier (before after : TreeState) (entry : Record) : Type 0 where
  pub same : (n : ℕ) → is_earlier after entry n ≡ is_earlier before entry n
  pub present : (n : ℕ) → IsEarlier before entry n → IsPresent before.points n

-- then they are as many
pub earlier_count-same :
    (before after : TreeState) (entry : Record) → GrowsInto before after → HaveSameEarlier before after entry
    → earlier_count after entry ≡ earlier_count before entry
earlier_count-same before after entry grows h =
    let early : ℕ → Bool = is_earlier before entry in
    let below : (i : ℕ) → early i ≡ true → i < length before.points =
    λ i e. IsPresent-below before.points i (h.present i e) in
    let later_below : (i : ℕ) → early i ≡ true → i < length after.points =
    λ i e. IsPresent-below after.points i (IsPresent-grows before after grows i (h.present i e)) in
    length-filter (is_earlier after entry) (range_with_len 0 (length after.points))
    ∙ count-same (is_earlier after entry) early (length after.points) (λ i l. h.same i)
    ∙ count-limits early (length after.points) (length before.points) later_below below
    ∙ sym (length-filter early (range_with_len 0 (length before.points)))

-- a record of another worker, or of no earlier turn, is not that of an earlier mark
not_earlier : (new entry : Record) → (new.worker ≢ entry.worker) ⊎ (entry.turn ≤ new.turn) → is_earlier_record entry (Some new) ≡ false
not_earlier new entry (inl apart) =
    and_right (is_placed new.outcome) (eqb new.worker entry.worker && ltb new.turn entry.turn)
    (and_left (eqb new.worker entry.worker) (ltb new.turn entry.turn) (ne_eqb new.worker entry.worker apart))
not_earlier new entry (inr no_less) =
    and_right (is_placed new.outcome) (eqb new.worker entry.worker && ltb new.turn entry.turn)
    (and_right (eqb new.worker entry.worker) (ltb new.turn entry.turn) (le-ltb new.turn entry.turn no_less))

-- so the earlier nodes are the same with it
pub is_earlier-same :
    (before after : TreeState) (k : ℕ) (new entry : Record) → RecordsMark before.record_of after.record_of k new
    → (new.worker ≢ entry.worker) ⊎ (entry.turn ≤ new.turn) → (n : ℕ) → is_earlier after entry n ≡ is_earlier before entry n
is_earlier-same before after k new entry change later zero = refl
is_earlier-same before after k new entry change later (suc j) =
    elim (cases_eq j k) [
      | inl e ↦ (
          ap (λ m. is_earlier_record entry (after.record_of m)) e ∙ ap (is_earlier_record entry) change.recorded ∙ not_earlier new entry later
          ∙ sym (ap (λ m. is_earlier_record entry (before.record_of m)) e ∙ ap (is_earlier_record entry) change.absent))
      | inr apart ↦ ap (is_earlier_record entry) (change.others j apart)
    ]

-- and so they are with the same records
pub is_earlier-same_records :
    (before after : TreeState) (entry : Record) → ((k : ℕ) → after.record_of k ≡ before.record_of k)
    → (n : ℕ) → is_earlier after entry n ≡ is_earlier before entry n
is_earlier-same_records before after entry same zero = refl
is_earlier-same_records before after entry same (suc k) = ap (is_earlier_record entry) (same k)
