use Rattle.plan_words.proofs.Words.{◌≡◌, ◌≢◌, ℕ, ◌<◌, Bool, true, List, length, slice_index, is_marked}
use Rattle.plan_words.proofs.waiting.unmark.Given as goal

-- who is marked still was so, and stands on the list from here on
pub record AreLeft (was : List Bool) (nodes : List ℕ) (index : ℕ) (marked : List Bool) : Type 0 where
  pub sized : length marked ≡ length was
  pub stays : (n : ℕ) → is_marked marked n ≡ true → is_marked was n ≡ true
  pub apart : (i n : ℕ) → i < index → is_marked marked n ≡ true → slice_index nodes i ≢ n

abbrev pub invariant-loop-index : goal.invariant-loop-index
invariant-loop-index l = AreLeft l.fn.marked.items l.fn.nodes l.index l.marked.items
