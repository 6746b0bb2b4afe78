use Rattle.plan_words.proofs.Words.{◌≡◌, take, vec_capacity, numbers_of}
use Rattle.plan_words.proofs.scratch.fill_sorted.Given as goal

-- the first of those found are on the list
abbrev pub invariant-loop-index : goal.invariant-loop-index
invariant-loop-index l = record {
  items : l.list.items ≡ numbers_of (take l.index l.search.lists.found);
  room : vec_capacity l.list ≡ vec_capacity l.fn.list;
}
