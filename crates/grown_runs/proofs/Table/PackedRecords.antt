-- A packed record is read again.
use Rattle.grown_runs.proofs.Words.{◌≡◌, ℕ, ◌+◌, ◌*◌, ◌<◌, ◌≤◌, ◌^◌, Some, refl, sym, ap, subst, ◌∙◌, arith, IsTrue, ◌==◌, ◌&&◌, unwrap_or, nat_tests}
use Rattle.grown_runs.proofs.Words.{same_Some, Outcome, Placed, Same, Blocked, Skipped, Record, is_zero_unless_placed, Record-from_fields, number_of_outcome}
use Rattle.grown_runs.proofs.Words.{parent_in, cost_in, last_field, record_word, FitsWord, IsFirstWord, worker_in, turn_in, nearest_in, outcome_in, last_in}
use Rattle.grown_runs.proofs.Words.{placed_in, unplaced_in, record_in, record_of_word}
use Rattle.grown_runs.proofs.Table.ReadWords.{if_written-set}
use Rattle.grown_runs.proofs.Table.PackedWords.{parent_in-tree_word, cost_in-tree_word}

-- ---- the fields of a packed record

-- a word has these fields
record HasFields (word last number nearest turn worker : ℕ) : Type 0 where
  last_is : last_in word ≡ last
  number_is : outcome_in word ≡ number
  nearest_is : nearest_in word ≡ nearest
  turn_is : turn_in word ≡ turn
  worker_is : worker_in word ≡ worker

fields-packed :
    (last number nearest turn worker : ℕ) → last < 2 ^ 18 → number < 2 ^ 2 → nearest < 2 ^ 18 → turn < 2 ^ 18 → worker < 2 ^ 6
    → HasFields (2 ^ 63 + last * 2 ^ 44 + number * 2 ^ 42 + nearest * 2 ^ 24 + turn * 2 ^ 6 + worker) last number nearest turn worker
fields-packed last number nearest turn worker l o n t w =
    record {
      last_is = omega (arith, l, o, n, t, w);
      number_is = omega (arith, l, o, n, t, w);
      nearest_is = omega (arith, n, t, w);
      turn_is = omega (arith, t, w);
      worker_is = omega (arith, w);
    }

-- an outcome has one of four numbers
number_of_outcome-few : (outcome : Outcome) → number_of_outcome outcome < 2 ^ 2
number_of_outcome-few Placed = omega arith
number_of_outcome-few outcome = omega arith

-- the fields of a record's word
record_word-fields : (entry : Record) → FitsWord entry
    → HasFields (record_word entry) (last_field entry.outcome entry.class) (number_of_outcome entry.outcome) entry.nearest entry.turn entry.worker
record_word-fields entry h =
    fields-packed (last_field entry.outcome entry.class) (number_of_outcome entry.outcome) entry.nearest entry.turn entry.worker
    h.last (number_of_outcome-few entry.outcome) h.nearest h.turn h.worker

-- and so the number of its outcome
pub outcome_in-record_word : (entry : Record) → FitsWord entry → outcome_in (record_word entry) ≡ number_of_outcome entry.outcome
outcome_in-record_word entry h = (record_word-fields entry h).number_is

-- ---- records

-- what is 0 of an unplaced mark
pub record AreZero (parent cost class : ℕ) : Type 0 where
  pub parent_is : parent ≡ 0
  pub cost_is : cost ≡ 0
  pub class_is : class ≡ 0

pub zeros : (parent cost class : ℕ) → IsTrue (parent == 0 && (cost == 0 && class == 0)) → AreZero parent cost class
zeros parent cost class h =
    record { parent_is = grind (arith, nat_tests); cost_is = grind (arith, nat_tests); class_is = grind (arith, nat_tests) }

-- what a record keeps of its unplaced mark, at its outcome
pub unplaced_at : (entry : Record) (outcome : Outcome) → entry.outcome ≡ outcome
    → IsTrue (is_zero_unless_placed outcome entry.first_parent entry.first_cost entry.class)
unplaced_at entry outcome e =
    subst (λ o. IsTrue (is_zero_unless_placed o entry.first_parent entry.first_cost entry.class)) e entry.unplaced

-- a packed record of an unplaced mark reads as itself
unplaced_in-packed : (entry : Record) (outcome : Outcome) → outcome ≡ entry.outcome → FitsWord entry
    → AreZero entry.first_parent entry.first_cost entry.class → unplaced_in (record_word entry) outcome ≡ entry
unplaced_in-packed entry outcome is h zero_fields =
    let fields = record_word-fields entry h in
    Record-from_fields (unplaced_in (record_word entry) outcome) entry (record {
      worker = fields.worker_is;
      turn = fields.turn_is;
      nearest = fields.nearest_is;
      outcome = is;
      first_parent = sym zero_fields.parent_is;
      first_cost = sym zero_fields.cost_is;
      class = sym zero_fields.class_is;
    })

-- a packed record reads as itself, by its outcome
record_in-packed : (entry : Record) (first : ℕ) (outcome : Outcome) → entry.outcome ≡ outcome → FitsWord entry → IsFirstWord entry first
    → record_in (outcome_in (record_word entry)) (record_word entry) first ≡ entry
record_in-packed entry first Placed e h f =
    let word = record_word entry in
    let fields = record_word-fields entry h in
    ap (λ n. record_in n word first) (fields.number_is ∙ ap number_of_outcome e)
    ∙ Record-from_fields (placed_in word first) entry (record {
      worker = fields.worker_is;
      turn = fields.turn_is;
      nearest = fields.nearest_is;
      outcome = sym e;
      first_parent = ap parent_in (f.word e) ∙ parent_in-tree_word entry.first_parent entry.first_cost f.parent;
      first_cost = ap cost_in (f.word e) ∙ cost_in-tree_word entry.first_parent entry.first_cost f.parent f.cost;
      class = fields.last_is ∙ ap (λ o. last_field o entry.class) e;
    })
record_in-packed entry first (Same j) e h f =
    let fields = record_word-fields entry h in
    let node = fields.last_is ∙ ap (λ o. last_field o entry.class) e in
    ap (λ n. record_in n (record_word entry) first) (fields.number_is ∙ ap number_of_outcome e)
    ∙ unplaced_in-packed entry (Same (last_in (record_word entry))) (ap Same node ∙ sym e) h
    (zeros entry.first_parent entry.first_cost entry.class (unplaced_at entry (Same j) e))
record_in-packed entry first Blocked e h f =
    ap (λ n. record_in n (record_word entry) first) (outcome_in-record_word entry h ∙ ap number_of_outcome e)
    ∙ unplaced_in-packed entry Blocked (sym e) h (zeros entry.first_parent entry.first_cost entry.class (unplaced_at entry Blocked e))
record_in-packed entry first Skipped e h f =
    ap (λ n. record_in n (record_word entry) first) (outcome_in-record_word entry h ∙ ap number_of_outcome e)
    ∙ unplaced_in-packed entry Skipped (sym e) h (zeros entry.first_parent entry.first_cost entry.class (unplaced_at entry Skipped e))

-- a packed record is read again
pub record_of_word-packed : (entry : Record) (first : ℕ) → FitsWord entry → IsFirstWord entry first
    → record_of_word (record_word entry) first ≡ Some entry
record_of_word-packed entry first h f =
    let word = record_word entry in
    let set : 2 ^ 63 ≤ word = omega arith in
    if_written-set word (record_in (outcome_in word) word first) set ∙ ap Some (record_in-packed entry first entry.outcome refl h f)

-- records with the same word and the same first word are the same
pub record_word-one : (one other : Record) (first : ℕ) → FitsWord one → FitsWord other → IsFirstWord one first → IsFirstWord other first
    → record_word one ≡ record_word other → one ≡ other
record_word-one one other first h g f k e =
    let read : Some one ≡ Some other =
    sym (record_of_word-packed one first h f) ∙ ap (λ word. record_of_word word first) e ∙ record_of_word-packed other first g k in
    ap (λ found. unwrap_or found one) read

-- a record that is read from a packed word is packed to that word again
pub record_word-again : (one entry : Record) (first : ℕ) → FitsWord one → record_of_word (record_word one) first ≡ Some entry
    → record_word entry ≡ record_word one
record_word-again one entry first h e = by_outcome one.outcome refl
  where
    read : record_in (outcome_in (record_word one)) (record_word one) first ≡ entry
    read =
        let set : 2 ^ 63 ≤ record_word one = omega arith in
        same_Some (record_in (outcome_in (record_word one)) (record_word one) first) entry
        (sym (if_written-set (record_word one) (record_in (outcome_in (record_word one)) (record_word one) first) set) ∙ e)

    by_number : (number : ℕ) → number_of_outcome one.outcome ≡ number → record_in number (record_word one) first ≡ entry
    by_number number is = ap (λ n. record_in n (record_word one) first) (sym is ∙ sym (record_word-fields one h).number_is) ∙ read

    by_outcome : (outcome : Outcome) → one.outcome ≡ outcome → record_word entry ≡ record_word one
    by_outcome Placed is =
        let fields = record_word-fields one h in
        ap record_word (sym (by_number 0 (ap number_of_outcome is)))
        ∙ omega (
          arith,
          fields.last_is,
          fields.nearest_is,
          fields.turn_is,
          fields.worker_is,
          ap number_of_outcome is,
          ap (λ o. last_field o one.class) is,
        )
    by_outcome (Same j) is =
        let fields = record_word-fields one h in
        ap record_word (sym (by_number 1 (ap number_of_outcome is)))
        ∙ omega (
          arith,
          fields.last_is,
          fields.nearest_is,
          fields.turn_is,
          fields.worker_is,
          ap number_of_outcome is,
          ap (λ o. last_field o one.class) is,
        )
    by_outcome Blocked is =
        let fields = record_word-fields one h in
        ap record_word (sym (by_number 2 (ap number_of_outcome is)))
        ∙ omega (
          arith,
          fields.last_is,
          fields.nearest_is,
          fields.turn_is,
          fields.worker_is,
          ap number_of_outcome is,
          ap (λ o. last_field o one.class) is,
        )
    by_outcome Skipped is =
        let fields = record_word-fields one h in
        ap record_word (sym (by_number 3 (ap number_of_outcome is)))
        ∙ omega (
          arith,
          fields.last_is,
          fields.nearest_is,
          fields.turn_is,
          fields.worker_is,
          ap number_of_outcome is,
          ap (λ o. last_field o one.class) is,
        )
