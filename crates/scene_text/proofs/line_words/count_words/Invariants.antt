use Rattle.scene_text.proofs.Words.{◌≡◌, ◌+◌, ◌≤◌, ◌&&◌, length, list_all, words_of, is_number}
use Rattle.scene_text.proofs.line_words.count_words.Given as goal

-- the words that were counted, and those of the rest, are those of the line, and so for whether each is a number
abbrev pub invariant-loop-word : goal.invariant-loop-word
invariant-loop-word l =
    (l.count + length (words_of l.rest) ≡ length (words_of l.line)) × (l.count + length l.rest ≤ length l.line)
    × ((l.are_numbers && list_all is_number (words_of l.rest)) ≡ list_all is_number (words_of l.line))

abbrev pub decreases-loop-word : goal.decreases-loop-word
decreases-loop-word l = length l.rest
