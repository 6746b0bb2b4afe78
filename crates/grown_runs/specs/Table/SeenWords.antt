-- What a table of seen words says of a tree: each word as it was last seen, and 0 if it was not.
use Rattle.std.specs.Prelude.{◌≡◌, ℕ, suc, ◌+◌, ◌^◌, ◌&&◌, nat_lt, Option, None, map, if◌then◌else◌}
use Rattle.grown_runs.specs.Terms.{IsSeen, Point, Record, SeenTree, Sight, range_with_len}
use Rattle.grown_runs.specs.Runs.GrownWords.{has_placed, children_of_words}
use Rattle.grown_runs.specs.Table.WordNames.{Word, Words, WritesWord}
use Rattle.grown_runs.specs.Table.WordNames.Word.{Count, Counter, PointOf, ChildOf, TreeOf, FirstOf, RecordOf}
use Rattle.grown_runs.specs.Table.WordPlaces.{Sizes}
use Rattle.grown_runs.specs.Table.Words.{point_of_word, tree_of_word, record_of_word}

-- ---- the tree that seen words say
-- where a node was seen
abbrev pub seen_point : Words → ℕ → Option Point
seen_point seen n = point_of_word (seen (PointOf n))

-- the record in these two words, if it is whole: of a placed mark the first word of its node is needed too
abbrev pub whole_record : ℕ → ℕ → Option Record
whole_record word first = if has_placed (record_of_word word first) && nat_lt first (2 ^ 63) then None else record_of_word word first

-- the tree as far as it was seen
abbrev pub seen_tree_of_words : Sizes → Words → SeenTree
seen_tree_of_words sizes seen = record {
  child = children_of_words seen;
  points = map (seen_point seen) (range_with_len 0 (sizes.marks + 1));
  parent_and_cost = λ n. tree_of_word (seen (TreeOf n));
  record_of = λ k. whole_record (seen (RecordOf k)) (seen (FirstOf (suc k)));
  counter = λ strip. seen (Counter strip);
  count = seen Count;
}

-- What a worker has looked at: each word as it last saw it, and 0 if it did not. How many steps it has made, and for each word the number
-- of the last of them that found it 0; steps are numbered from 1, and 0 is none.
pub record SeenWords : Type 0 where
  pub seen : Words
  pub steps : ℕ
  pub found_zero : Words

-- the same as a sight: a place of a child is empty if its word is 0
abbrev pub sight_of_words : Sizes → SeenWords → Sight
sight_of_words sizes table =
    record { seen = seen_tree_of_words sizes table.seen; steps = table.steps; found_empty = λ n side. table.found_zero (ChildOf n side) }

-- ---- looks
-- the point, a child or the tree word of a node is looked at if the node was seen, and any other word at any time
abbrev pub MayLookAt : SeenTree → Word → Type 0
MayLookAt seen (PointOf n) = IsSeen seen n
MayLookAt seen (ChildOf n side) = IsSeen seen n
MayLookAt seen (TreeOf n) = IsSeen seen n
MayLookAt seen _ = Unit {0}

-- One step more has seen this word as it is now. If the word is 0, the step has found it so.
pub record LooksAt (name : Word) (words : Words) (before after : SeenWords) : Type 0 where
  pub seen : WritesWord name (words name) before.seen after.seen
  pub steps : after.steps ≡ before.steps + 1
  pub found : words name ≡ 0 → WritesWord name (before.steps + 1) before.found_zero after.found_zero
  pub found_none : ¬ (words name ≡ 0) → (other : Word) → after.found_zero other ≡ before.found_zero other
