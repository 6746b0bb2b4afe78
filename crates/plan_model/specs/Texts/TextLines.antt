-- The lines of a text, and the words of a line.
use Rattle.std.specs.Prelude.{ℕ, ◌==◌, nat_lt, not, Bool, true, List, [], ◌∷◌, length, map, get_or, filter, if◌then◌else◌, ◌+◌, ◌-◌, ◌*◌, nat_le, ◌&&◌, ◌||◌}
use Rattle.std.specs.Prelude.{false, ℤ, pos, neg_ℤ, fold, bytes_eq}
use Rattle.plan_model.specs.Terms.{list_all}

-- a byte before those of the first list
abbrev pub onto_first : ℕ → List (List ℕ) → List (List ℕ)
onto_first b [] = (b ∷ []) ∷ []
onto_first b (first ∷ rest) = (b ∷ first) ∷ rest

-- The lines of a text: it is cut at each line feed, and what stands after the last one is a line if it is not empty.
abbrev pub lines_of : List ℕ → List (List ℕ)
lines_of [] = []
lines_of (b ∷ text) = if b == 10 then [] ∷ lines_of text else onto_first b (lines_of text)

-- a line, cut at each space
abbrev pub pieces_of : List ℕ → List (List ℕ)
pieces_of [] = [] ∷ []
pieces_of (b ∷ bytes) = if b == 32 then [] ∷ pieces_of bytes else onto_first b (pieces_of bytes)

-- the words of a line: the pieces that are not empty
abbrev pub words_of : List ℕ → List (List ℕ)
words_of bytes = filter (λ piece. nat_lt 0 (length piece)) (pieces_of bytes)

-- a line without words, or whose first word begins with `#`
abbrev pub is_skipped : List (List ℕ) → Bool
is_skipped [] = true
is_skipped (word ∷ words) = get_or word 0 0 == 35

-- the words of each line that is not skipped
abbrev pub statements_of : List (List ℕ) → List (List (List ℕ))
statements_of lines = filter (λ words. not (is_skipped words)) (map words_of lines)

-- ---- Words that are numbers, and the numbers that they stand for.
-- the byte is one of the digits 0 to 9
abbrev pub is_digit : ℕ → Bool
is_digit b = nat_le 48 b && nat_le b 57

-- a digit from 1 to 9, and then any digits
abbrev pub is_positive : List ℕ → Bool
is_positive [] = false
is_positive (b ∷ digits) = (is_digit b && not (b == 48)) && list_all is_digit digits

-- `0`, or a positive number, or one after `-`
abbrev pub is_number : List ℕ → Bool
is_number [] = false
is_number (b ∷ bytes) = (bytes_eq (b ∷ bytes) (48 ∷ []) || is_positive (b ∷ bytes)) || (b == 45 && is_positive bytes)

-- the number that digits stand for
abbrev pub magnitude : List ℕ → ℕ
magnitude digits = fold (λ n b. 10 * n + (b - 48)) 0 digits

-- the number that a word stands for
abbrev pub value_of : List ℕ → ℤ
value_of [] = pos 0
value_of (b ∷ bytes) = if b == 45 then neg_ℤ (pos (magnitude bytes)) else pos (magnitude (b ∷ bytes))
