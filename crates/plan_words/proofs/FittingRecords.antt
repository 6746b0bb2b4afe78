-- What a pass may record fits the word of a record.
use Rattle.plan_words.proofs.Words.{ℕ, ◌*◌, ◌<◌, ◌≤◌, ◌^◌, ap, arith, subst, sym, mod_below, is_some, IsPresent, class_of, Outcome, Blocked, Placed, Same}
use Rattle.plan_words.proofs.Words.{Skipped, Record, ending_as, class_from_powers, class_of-le, Count, last_field, IsLawfulView, MayEnd, MayRecord, sees}
use Rattle.plan_words.proofs.Words.{tree_seen, Hand, View}

module _ (view : View) (hand : Hand) (entry : Record) (lawful : IsLawfulView view) (may : MayRecord view hand entry) where
  small_number : (n : ℕ) → IsPresent (tree_seen view).points n → n < 2 ^ 18
  small_number n h = omega (arith, lawful.within n (lawful.tree.rooted.points n h), lawful.run.marks)

  pub nearest_fits : entry.nearest < 2 ^ 18
  nearest_fits = by_outcome entry.outcome may
    where
      by_outcome : (o : Outcome) → MayEnd view hand entry (ending_as entry o) → entry.nearest < 2 ^ 18
      by_outcome Placed h = small_number entry.nearest h.present
      by_outcome (Same j) h = small_number entry.nearest h.present
      by_outcome Blocked h = small_number entry.nearest h.present
      by_outcome Skipped h = subst (λ n. n < 2 ^ 18) (sym h.node) (mod_below h.word (2 ^ 18) (omega arith))

  -- by a variable, since the class of a numeral computes long
  low_class : (most : ℕ) → 2 ^ 18 ≤ most → most < 2 * 2 ^ 18 → sees view Count ≤ most → entry.class ≤ class_of (sees view Count) → entry.class < 2 ^ 18
  low_class most low below within high = omega (arith, high, class_of-le (sees view Count) most within, class_from_powers most 18 low below)

  pub last_fits : last_field entry.outcome entry.class < 2 ^ 18
  last_fits = by_outcome entry.outcome may
    where
      by_outcome : (o : Outcome) → MayEnd view hand entry (ending_as entry o) → last_field o entry.class < 2 ^ 18
      by_outcome Placed h = low_class 262144 (omega arith) (omega arith) (omega (arith, lawful.count, lawful.run.marks)) h.outcome.high
      by_outcome (Same j) h = small_number j (ap is_some h.outcome.1)
      by_outcome Blocked h = omega arith
      by_outcome Skipped h = omega arith
