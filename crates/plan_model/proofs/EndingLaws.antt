-- The record of an ending has it, and each record is that of its ending.
use Rattle.plan_model.proofs.Words.{◌≡◌, ℕ, refl, sym, subst, arith, IsTrue, ◌≢◌, ◌==◌, ◌&&◌, props, nat_tests, Outcome, Placed, Same, Blocked, Skipped, Record}
use Rattle.plan_model.proofs.Words.{Ending, Steered, Reached, NewNode, SameNode, NoWay, SkippedBy, ending_as, ending_of, first_hanging, record_of_ending}
use Rattle.plan_model.proofs.Words.{unplaced_record, is_zero_unless_placed, HaveSameFields}
use mathlib.Core.HLevel.{is_prop→PathP}

-- records with the same fields are the same: the fact that they hold has one proof at most
pub Record-from_fields : (one other : Record) → HaveSameFields one other → one ≡ other
Record-from_fields one other h = λ i. record {
  worker = h.worker i;
  turn = h.turn i;
  nearest = h.nearest i;
  outcome = h.outcome i;
  first_parent = h.first_parent i;
  first_cost = h.first_cost i;
  class = h.class i;
  unplaced =
      is_prop→PathP
      (λ j. IsTrue (is_zero_unless_placed (h.outcome j) (h.first_parent j) (h.first_cost j) (h.class j)))
      (λ j. hlevel props)
      one.unplaced other.unplaced i;
}

-- the record of an ending has it
pub ending_of-record : (worker turn : ℕ) (ending : Ending) → ending_of (record_of_ending worker turn ending) ≡ ending
ending_of-record worker turn (Steered nearest (NewNode first)) = refl
ending_of-record worker turn (Steered nearest (SameNode j)) = refl
ending_of-record worker turn (Steered nearest NoWay) = refl
ending_of-record worker turn (SkippedBy g) = refl

-- a record of a mark that was not skipped says what its nearest node reached
pub reached-unskipped :
    (entry : Record) (outcome : Outcome) → outcome ≢ Skipped → (reached : Reached) × (ending_as entry outcome ≡ Steered entry.nearest reached)
reached-unskipped entry Placed other = (NewNode (first_hanging entry), refl)
reached-unskipped entry (Same j) other = (SameNode j, refl)
reached-unskipped entry Blocked other = (NoWay, refl)
reached-unskipped entry Skipped other = absurd (other refl)

-- each record is that of its ending
pub record_of_ending-again : (entry : Record) → record_of_ending entry.worker entry.turn (ending_of entry) ≡ entry
record_of_ending-again entry = by_outcome entry.outcome refl
  where
    zeros_at : (o : Outcome) → entry.outcome ≡ o → IsTrue (is_zero_unless_placed o entry.first_parent entry.first_cost entry.class)
    zeros_at o e = subst (λ o. IsTrue (is_zero_unless_placed o entry.first_parent entry.first_cost entry.class)) e entry.unplaced

    unplaced : (o : Outcome) → entry.outcome ≡ o → IsTrue (entry.first_parent == 0 && (entry.first_cost == 0 && entry.class == 0))
        → unplaced_record entry.worker entry.turn entry.nearest o ≡ entry
    unplaced o e h = Record-from_fields (unplaced_record entry.worker entry.turn entry.nearest o) entry (record {
      worker = refl;
      turn = refl;
      nearest = refl;
      outcome = sym e;
      first_parent = grind (arith, nat_tests);
      first_cost = grind (arith, nat_tests);
      class = grind (arith, nat_tests);
    })

    by_outcome : (o : Outcome) → entry.outcome ≡ o → record_of_ending entry.worker entry.turn (ending_as entry o) ≡ entry
    by_outcome Placed e = Record-from_fields (record_of_ending entry.worker entry.turn (ending_as entry Placed)) entry (record {
      worker = refl;
      turn = refl;
      nearest = refl;
      outcome = sym e;
      first_parent = refl;
      first_cost = refl;
      class = refl;
    })
    by_outcome (Same j) e = unplaced (Same j) e (zeros_at (Same j) e)
    by_outcome Blocked e = unplaced Blocked e (zeros_at Blocked e)
    by_outcome Skipped e = unplaced Skipped e (zeros_at Skipped e)
