-- The words of the first nodes stand for those of all.
use Rattle.plan_words.proofs.Words.{◌≡◌, ℕ, ◌+◌, ◌<◌, ◌≤◌, List, length, sym, ap, ◌∙◌, subst, arith, slice_set, length-set, chain_of, seen_words}
use Rattle.plan_words.proofs.Words.{sibling_chain_in, HasFirstPairs, HasPairs, View}
use Rattle.plan_words.proofs.SeenLists.{index-seen, length-seen, seen-set}

-- in the same chains
pub chain-seen : (nodes : ℕ) (words : List ℕ) (n : ℕ) → sibling_chain_in (seen_words nodes words) n ≡ sibling_chain_in words n
chain-seen nodes words n = ap (chain_of n) (index-seen nodes words n)

-- if they are as they were seen, so are those of all
pub HasFirstPairs-seen : (view : View) (nodes : ℕ) (words : List ℕ) → length words ≤ nodes → HasPairs view (seen_words nodes words) → HasFirstPairs view words
HasFirstPairs-seen view nodes words within has = record {
  within = omega (arith, length-seen nodes words within, within, has.for_each);
  seen = λ n low. sym (index-seen nodes words n) ∙ has.seen n low;
}

pub HasPairs-first : (view : View) (nodes : ℕ) (words : List ℕ) → length words ≤ nodes → nodes ≡ length view.run.marks + 1 → HasFirstPairs view words
    → HasPairs view (seen_words nodes words)
HasPairs-first view nodes words within all has = record {
  for_each = length-seen nodes words within ∙ all;
  seen = λ n low. index-seen nodes words n ∙ has.seen n low;
}

-- and if one of them is set
pub HasPairs-first_set : (view : View) (nodes : ℕ) (words : List ℕ) (n x : ℕ) → length words ≤ nodes → nodes ≡ length view.run.marks + 1 → n < length words
    → HasFirstPairs view (slice_set words n x) → HasPairs view (slice_set (seen_words nodes words) n x)
HasPairs-first_set view nodes words n x within all low has =
    subst (HasPairs view) (seen-set nodes words n x low)
    (HasPairs-first view nodes (slice_set words n x) (omega (arith, length-set words n x, within)) all has)
