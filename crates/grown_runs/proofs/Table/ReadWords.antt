-- A word that is written holds its value, and a record outcome by outcome.
use Rattle.grown_runs.proofs.Words.{◌≡◌, ℕ, suc, ◌<◌, ◌≤◌, ◌/◌, ◌^◌, false, nat_lt, bit_and, refl, sym, ap, ◌∙◌, arith, if◌then◌else◌, Some, None}
use Rattle.grown_runs.proofs.Words.{nat_tests, and_mask, Skipped, Record, if_written, outcome_in, record_in, record_of_word, unplaced_in}

-- a written word holds its value
pub if_written-set : {A : Type 0} → (word : ℕ) (value : A) → 2 ^ 63 ≤ word → if_written word value ≡ Some value
if_written-set word value set =
    let test : nat_lt word (2 ^ 63) ≡ false = grind (arith, nat_tests) in
    ap (λ unset. if unset then None else Some value) test

-- a record with the last number of an outcome is that of a skipped mark
pub record_in-skipped : (number word first : ℕ) → 2 < number → record_in number word first ≡ unplaced_in word Skipped
record_in-skipped (suc (suc (suc n))) word first more = refl
record_in-skipped number word first more = absurd (omega (arith, more))

-- what the code finds in bits 42 and 43 is the outcome
pub outcome_in-mask : (word number : ℕ) → bit_and (word / 2 ^ 42) 3 ≡ number → outcome_in word ≡ number
outcome_in-mask word number found = sym (and_mask (word / 2 ^ 42) 2) ∙ found

-- a written word holds the record by its number
pub record_of_word-is : (word first number : ℕ) (entry : Record) → 2 ^ 63 ≤ word → bit_and (word / 2 ^ 42) 3 ≡ number
    → entry ≡ record_in number word first → Some entry ≡ record_of_word word first
record_of_word-is word first number entry set found is =
    ap Some (is ∙ ap (λ n. record_in n word first) (sym (outcome_in-mask word number found)))
    ∙ sym (if_written-set word (record_in (outcome_in word) word first) set)
