use Rattle.plan_words.proofs.Words.{◌≡◌, ℕ, ◌+◌, ◌<◌, ◌≤◌, length, slice_index, vec_capacity, words_of_grown, TreeOf, AreSeenFirst}
use Rattle.plan_words.proofs.seen_pairs.see_run.Given as goal

-- the words of the nodes so far are seen, and no others
abbrev pub invariant-loop-node : goal.invariant-loop-node
invariant-loop-node l = record {
  first : AreSeenFirst (length l.grown.task.marks + 1) l.words.items (vec_capacity l.words) l.children;
  long : l.nodes ≤ length l.words.items;
  read : (n : ℕ) → n < l.node → slice_index l.words.items n ≡ words_of_grown l.grown (TreeOf n);
  unseen : (n : ℕ) → l.node ≤ n → slice_index l.words.items n ≡ 0;
}
