-- Cutting the first word off a line.
use Rattle.plan_model.proofs.Words.{◌≡◌, ℕ, ◌+◌, ◌<◌, ◌≤◌, Bool, true, false, cond, not, eqb, ltb, List, [], ◌∷◌, length, suc, take, drop, refl, ap, ◌∙◌, sym}
use Rattle.plan_model.proofs.Words.{subst, arith, position_or_len, prefix_len, length-take-le, nil_from_length, prefix_len-le-length, nat_tests, pieces_of}
use Rattle.plan_model.proofs.Words.{words_of, onto_first}
use Rattle.std.specs.List.{filter}

-- how many blanks a line begins with
abbrev pub blank_count : List ℕ → ℕ
blank_count line = prefix_len (λ b. eqb b 32) line

-- how many bytes the first piece of a line has
abbrev pub piece_length : List ℕ → ℕ
piece_length line = position_or_len (λ b. eqb b 32) line

-- the pieces that are words
abbrev words_among : List (List ℕ) → List (List ℕ)
words_among pieces = filter (λ piece. ltb 0 (length piece)) pieces

abbrev pieces_from : Bool → ℕ → List ℕ → List (List ℕ)
pieces_from is_blank b line = cond is_blank ([] ∷ pieces_of line) (onto_first b (pieces_of line))

drop_more : (n b : ℕ) (line : List ℕ) → drop (1 + n) (b ∷ line) ≡ drop n line
drop_more n b line = let one : 1 + n ≡ suc n = omega arith in rw one

take_more_first : (n b : ℕ) (line : List ℕ) → take (1 + n) (b ∷ line) ≡ b ∷ take n line
take_more_first n b line = let one : 1 + n ≡ suc n = omega arith in rw one

-- ---- leading blanks

words_of-blanks_at : (is_blank : Bool) (b : ℕ) (line : List ℕ) → is_blank ≡ eqb b 32 → words_of line ≡ words_of (drop (blank_count line) line)
    → words_of (b ∷ line) ≡ words_of (drop (cond is_blank (1 + blank_count line) 0) (b ∷ line))
words_of-blanks_at true b line e h = rw (← e, drop_more (blank_count line) b line) h
words_of-blanks_at false b line e h = refl

-- blanks before the first word change no word
pub words_of-blanks : (line : List ℕ) → words_of line ≡ words_of (drop (blank_count line) line)
words_of-blanks [] = refl
words_of-blanks (b ∷ line) = words_of-blanks_at (eqb b 32) b line refl (words_of-blanks line)

-- a list of bytes that is empty, or whose first piece is not
abbrev BeginsWord : List ℕ → Type 0
BeginsWord line = 0 < length line → 0 < piece_length line

BeginsWord-at : (is_blank : Bool) (b : ℕ) (line : List ℕ) → is_blank ≡ eqb b 32 → BeginsWord (drop (blank_count line) line)
    → BeginsWord (drop (cond is_blank (1 + blank_count line) 0) (b ∷ line))
BeginsWord-at true b line e h = subst BeginsWord (sym (drop_more (blank_count line) b line)) h
BeginsWord-at false b line e h = λ some. rw (← e) (omega arith)

-- what stands after the blanks begins with a word
pub piece_length-positive : (line : List ℕ) → 0 < length (drop (blank_count line) line) → 0 < piece_length (drop (blank_count line) line)
piece_length-positive [] = λ some. absurd (omega arith)
piece_length-positive (b ∷ line) = BeginsWord-at (eqb b 32) b line refl (piece_length-positive line)

-- ---- the first piece

onto_first-piece : (b : ℕ) (pieces : List (List ℕ)) (piece : List ℕ) → pieces ≡ piece ∷ drop 1 pieces
    → onto_first b pieces ≡ (b ∷ piece) ∷ drop 1 (onto_first b pieces)
onto_first-piece b [] piece e = cc
onto_first-piece b (first ∷ rest) piece e = let same : first ≡ piece = cc in ap (λ p. (b ∷ p) ∷ rest) same

pieces_of-cut_at : (is_blank : Bool) (b : ℕ) (line : List ℕ) → pieces_of line ≡ take (piece_length line) line ∷ drop 1 (pieces_of line)
    → pieces_from is_blank b line ≡ take (cond (not is_blank) (1 + piece_length line) 0) (b ∷ line) ∷ drop 1 (pieces_from is_blank b line)
pieces_of-cut_at true b line h = refl
pieces_of-cut_at false b line h = rw (take_more_first (piece_length line) b line) (onto_first-piece b (pieces_of line) (take (piece_length line) line) h)

pieces_of-cut : (line : List ℕ) → pieces_of line ≡ take (piece_length line) line ∷ drop 1 (pieces_of line)
pieces_of-cut [] = refl
pieces_of-cut (b ∷ line) = pieces_of-cut_at (eqb b 32) b line (pieces_of-cut line)

onto_first-rest : (b : ℕ) (pieces : List (List ℕ)) (piece : List ℕ) → pieces ≡ piece ∷ drop 1 pieces → drop 1 (onto_first b pieces) ≡ drop 1 pieces
onto_first-rest b [] piece e = cc
onto_first-rest b (first ∷ rest) piece e = refl

words_of-rest_at : (is_blank : Bool) (b : ℕ) (line : List ℕ) → is_blank ≡ eqb b 32
    → words_among (drop 1 (pieces_of line)) ≡ words_of (drop (piece_length line) line)
    → words_among (drop 1 (pieces_from is_blank b line)) ≡ words_of (drop (cond (not is_blank) (1 + piece_length line) 0) (b ∷ line))
words_of-rest_at true b line e h = rw (← e)
words_of-rest_at false b line e h =
    rw (drop_more (piece_length line) b line, onto_first-rest b (pieces_of line) (take (piece_length line) line) (pieces_of-cut line)) h

-- the words after the first piece are those of the other pieces
words_of-rest : (line : List ℕ) → words_among (drop 1 (pieces_of line)) ≡ words_of (drop (piece_length line) line)
words_of-rest [] = refl
words_of-rest (b ∷ line) = words_of-rest_at (eqb b 32) b line refl (words_of-rest line)

words_among-cons : (piece : List ℕ) (pieces : List (List ℕ)) → 0 < length piece → words_among (piece ∷ pieces) ≡ piece ∷ words_among pieces
words_among-cons piece pieces h = let some : ltb 0 (length piece) ≡ true = grind (arith, nat_tests) in rw some

-- the first word, if the line begins with one, and the words after it
pub words_of-cut : (line : List ℕ) → 0 < piece_length line → words_of line ≡ take (piece_length line) line ∷ words_of (drop (piece_length line) line)
words_of-cut line h =
    let within : piece_length line ≤ length line = prefix_len-le-length (λ b. not (eqb b 32)) line in
    let some : 0 < length (take (piece_length line) line) = omega (arith, length-take-le (piece_length line) line within) in
    ap words_among (pieces_of-cut line) ∙ words_among-cons (take (piece_length line) line) (drop 1 (pieces_of line)) some
    ∙ ap (λ words. take (piece_length line) line ∷ words) (words_of-rest line)

-- a line of blanks has no word
pub words_of-none : (line words : List ℕ) (n : ℕ) → n ≡ blank_count line → words ≡ drop n line → length words ≡ 0 → words_of line ≡ []
words_of-none line words n count rest empty =
    let none : words ≡ [] = nil_from_length words empty in
    words_of-blanks line ∙ ap words_of (sym (rest ∙ ap (λ k. drop k line) count) ∙ none)

-- the first word after the blanks, and the words after it
pub words_of-split : (line words word after : List ℕ) (n m : ℕ) → n ≡ blank_count line → words ≡ drop n line → 0 < length words → m ≡ piece_length words
    → word ≡ take m words → after ≡ drop m words → words_of line ≡ word ∷ words_of after
words_of-split line words word after n m count rest some place prefix back =
    let same : words ≡ drop (blank_count line) line = rest ∙ ap (λ k. drop k line) count in
    let positive : 0 < piece_length words = rw same (piece_length-positive line (rw (← same) some)) in
    words_of-blanks line ∙ ap words_of (sym same) ∙ words_of-cut words positive ∙ rw (prefix, back, place)
