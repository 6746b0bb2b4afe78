use Rattle.plan_words.proofs.Words.{ℕ, ◌-◌, ◌≤◌, length, vec_capacity, AreSeenFirst, seen_words}
use Rattle.plan_words.proofs.SeenLists.{StandFor}
use Rattle.plan_words.proofs.seen_pairs.lengthen.Given as goal

-- the lists stand for the words that they stood for
abbrev pub invariant-loop-words : goal.invariant-loop-words
invariant-loop-words l =
    (all : ℕ) → l.nodes ≤ all → AreSeenFirst all l.initial.words.items (vec_capacity l.initial.words) l.initial.children
    → StandFor all (seen_words all l.initial.words.items) l.words.items (vec_capacity l.words) l.children

abbrev pub decreases-loop-words : goal.decreases-loop-words
decreases-loop-words l = l.nodes - length l.words.items
