use Rattle.plan_words.proofs.Words.{◌≡◌, take, slots_items}
use Rattle.plan_words.proofs.ends.copy_words.Given as goal

-- the words so far
abbrev pub invariant-loop-place : goal.invariant-loop-place
invariant-loop-place l = record {
  places : l.words.places ≡ l.initial.words.places;
  copied : take l.place l.words.list.items ≡ take l.place (slots_items l.closed.words);
}
