use Rattle.plan_words.proofs.Words.{◌≡◌, ℕ, ◌<◌, ◌≤◌, List, length, slice_index, later_word, Falling}
use Rattle.plan_words.proofs.shared.take_cheaper.Given as goal

-- the later words of the numbers so far, and all others as they were
pub record AreTaken (was others : List ℕ) (node : ℕ) (pairs : List ℕ) : Type 0 where
  pub sized : length pairs ≡ length was
  pub taken : (n : ℕ) → n < node → slice_index pairs n ≡ later_word Falling (slice_index was n) (slice_index others n)
  pub left : (n : ℕ) → node ≤ n → slice_index pairs n ≡ slice_index was n

abbrev pub invariant-loop-node : goal.invariant-loop-node
invariant-loop-node l = AreTaken l.fn.pairs l.fn.others l.node l.pairs
