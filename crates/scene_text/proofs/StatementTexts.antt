-- A text whose lines are statements, their words with a blank between two: its lines and words are those of the statements.
use Rattle.scene_text.proofs.Words.{◌≡◌, ℕ, ◌<◌, Bool, true, false, not, ◌&&◌, eqb, ltb, zero, suc, Option, Some, None, List, [], ◌∷◌, ◌++◌, length, map, take}
use Rattle.scene_text.proofs.Words.{get_or, filter, refl, sym, ap, ◌∙◌, subst, arith, list_all, flat_map, join_with_byte, append_assoc, append-nil, take-map}
use Rattle.scene_text.proofs.Words.{length-map, get_or-map, list_all-append, and_parts, line, lines_of, pieces_of, words_of, is_skipped, statements_of, Key}
use Rattle.scene_text.proofs.Words.{Format, given_by, version_of, fault_of_statement, fault_after, Kind, version_given, given_after_version, fault_of_line}
use Rattle.scene_text.proofs.Words.{IsSoundBelow}

-- ---- words

-- the byte stands in words
abbrev pub is_inner : ℕ → Bool
is_inner b = not (eqb b 32) && not (eqb b 10)

abbrev pub is_word : List ℕ → Bool
is_word bytes = ltb 0 (length bytes) && list_all is_inner bytes

-- a statement: words, one at least, of which the first makes no comment
abbrev pub is_clean : List (List ℕ) → Bool
is_clean words = list_all is_word words && not (is_skipped words)

not-true : (p : Bool) → not p ≡ true → p ≡ false
not-true true h = absurd (cc)
not-true false h = refl

-- ---- the first line of a text

lines_of-line : (bytes rest : List ℕ) → list_all (λ b. not (eqb b 10)) bytes ≡ true → lines_of (bytes ++ 10 ∷ rest) ≡ bytes ∷ lines_of rest
lines_of-line [] rest h = refl
lines_of-line (b ∷ bytes) rest h =
    let parts = and_parts (not (eqb b 10)) (list_all (λ x. not (eqb x 10)) bytes) h in
    let inner : eqb b 10 ≡ false = not-true (eqb b 10) parts.0 in
    rw (inner, lines_of-line bytes rest parts.1) refl

-- ---- the words of a line

pieces_of-word : (bytes rest : List ℕ) → list_all is_inner bytes ≡ true → pieces_of (bytes ++ 32 ∷ rest) ≡ bytes ∷ pieces_of rest
pieces_of-word [] rest h = refl
pieces_of-word (b ∷ bytes) rest h =
    let parts = and_parts (is_inner b) (list_all is_inner bytes) h in
    let inner : eqb b 32 ≡ false = not-true (eqb b 32) (and_parts (not (eqb b 32)) (not (eqb b 10)) parts.0).0 in
    rw (inner, pieces_of-word bytes rest parts.1) refl

pieces_of-last : (bytes : List ℕ) → list_all is_inner bytes ≡ true → pieces_of bytes ≡ bytes ∷ []
pieces_of-last [] h = refl
pieces_of-last (b ∷ bytes) h =
    let parts = and_parts (is_inner b) (list_all is_inner bytes) h in
    let inner : eqb b 32 ≡ false = not-true (eqb b 32) (and_parts (not (eqb b 32)) (not (eqb b 10)) parts.0).0 in
    rw (inner, pieces_of-last bytes parts.1) refl

pieces_of-join : (word : List ℕ) (words : List (List ℕ)) → list_all is_word (word ∷ words) ≡ true → pieces_of (join_with_byte 32 (word ∷ words)) ≡ word ∷ words
pieces_of-join word [] h =
    pieces_of-last word (and_parts (ltb 0 (length word)) (list_all is_inner word) (and_parts (is_word word) true h).0).1
pieces_of-join word (next ∷ words) h =
    let parts = and_parts (is_word word) (list_all is_word (next ∷ words)) h in
    pieces_of-word word (join_with_byte 32 (next ∷ words)) (and_parts (ltb 0 (length word)) (list_all is_inner word) parts.0).1
    ∙ ap (λ pieces. word ∷ pieces) (pieces_of-join next words parts.1)

filter-words : (words : List (List ℕ)) → list_all is_word words ≡ true → filter (λ piece. ltb 0 (length piece)) words ≡ words
filter-words [] h = refl
filter-words (word ∷ words) h =
    let parts = and_parts (is_word word) (list_all is_word words) h in
    let some = (and_parts (ltb 0 (length word)) (list_all is_inner word) parts.0).0 in
    rw (some, filter-words words parts.1) refl

words_of-join : (words : List (List ℕ)) → list_all is_word words ≡ true → words_of (join_with_byte 32 words) ≡ words
words_of-join [] h = refl
words_of-join (word ∷ words) h =
    ap (filter (λ piece. ltb 0 (length piece))) (pieces_of-join word words h) ∙ filter-words (word ∷ words) h

-- ---- the lines of a text

abbrev pub line_of : List (List ℕ) → List ℕ
line_of words = join_with_byte 32 words

-- what is so of bytes that pass a test is so of each of a list of them
pub list_all-weaker : (p q : ℕ → Bool) → ((b : ℕ) → p b ≡ true → q b ≡ true) → (bytes : List ℕ) → list_all p bytes ≡ true → list_all q bytes ≡ true
list_all-weaker p q weaker [] h = refl
list_all-weaker p q weaker (b ∷ bytes) h =
    let parts = and_parts (p b) (list_all p bytes) h in
    rw (weaker b parts.0, list_all-weaker p q weaker bytes parts.1) refl

inner-word : (bytes : List ℕ) → list_all is_inner bytes ≡ true → list_all (λ b. not (eqb b 10)) bytes ≡ true
inner-word = list_all-weaker is_inner (λ b. not (eqb b 10)) (λ b h. (and_parts (not (eqb b 32)) (not (eqb b 10)) h).1)

inner-line : (words : List (List ℕ)) → list_all is_word words ≡ true → list_all (λ b. not (eqb b 10)) (line_of words) ≡ true
inner-line [] h = refl
inner-line (word ∷ []) h =
    inner-word word (and_parts (ltb 0 (length word)) (list_all is_inner word) (and_parts (is_word word) true h).0).1
inner-line (word ∷ next ∷ words) h =
    let parts = and_parts (is_word word) (list_all is_word (next ∷ words)) h in
    let here = inner-word word (and_parts (ltb 0 (length word)) (list_all is_inner word) parts.0).1 in
    list_all-append (λ b. not (eqb b 10)) word (32 ∷ line_of (next ∷ words)) ∙ rw (here, inner-line (next ∷ words) parts.1) refl

pub lines_of-text : (statements : List (List (List ℕ))) → list_all is_clean statements ≡ true → lines_of (flat_map line statements) ≡ map line_of statements
lines_of-text [] h = refl
lines_of-text (words ∷ statements) h =
    let parts = and_parts (is_clean words) (list_all is_clean statements) h in
    let clean = (and_parts (list_all is_word words) (not (is_skipped words)) parts.0).0 in
    ap lines_of (append_assoc (line_of words) (10 ∷ []) (flat_map line statements))
    ∙ lines_of-line (line_of words) (flat_map line statements) (inner-line words clean)
    ∙ ap (λ lines. line_of words ∷ lines) (lines_of-text statements parts.1)

-- ---- the statements of lines

pub statements_of-lines : (statements : List (List (List ℕ))) → list_all is_clean statements ≡ true → statements_of (map line_of statements) ≡ statements
statements_of-lines [] h = refl
statements_of-lines (words ∷ statements) h =
    let parts = and_parts (is_clean words) (list_all is_clean statements) h in
    let clean = and_parts (list_all is_word words) (not (is_skipped words)) parts.0 in
    rw (words_of-join words clean.0, clean.1, statements_of-lines statements parts.1) refl

clean-take : (statements : List (List (List ℕ))) (i : ℕ) → list_all is_clean statements ≡ true → list_all is_clean (take i statements) ≡ true
clean-take [] zero h = refl
clean-take [] (suc i) h = refl
clean-take (words ∷ statements) zero h = refl
clean-take (words ∷ statements) (suc i) h =
    let parts = and_parts (is_clean words) (list_all is_clean statements) h in
    rw (parts.0, clean-take statements i parts.1) refl

clean-at : (statements : List (List (List ℕ))) (i : ℕ) → list_all is_clean statements ≡ true → i < length statements → is_clean (get_or statements i []) ≡ true
clean-at [] i h below = absurd (omega arith)
clean-at (words ∷ statements) zero h below = (and_parts (is_clean words) (list_all is_clean statements) h).0
clean-at (words ∷ statements) (suc i) h below =
    clean-at statements i (and_parts (is_clean words) (list_all is_clean statements) h).1 (omega arith)

-- the fault of a statement after others
abbrev pub fault_after_statements : Format → List (List (List ℕ)) → List (List ℕ) → Option Kind
fault_after_statements format before words = fault_after format (version_given format.reads before) (given_after_version before) words

-- the fault of a line is that of its statement
pub fault_of_line-statement : (format : Format) (statements : List (List (List ℕ))) (i : ℕ) → list_all is_clean statements ≡ true → i < length statements
    → fault_of_line format (map line_of statements) i ≡ fault_after_statements format (take i statements) (get_or statements i [])
fault_of_line-statement format statements i h below =
    let clean = and_parts (list_all is_word (get_or statements i [])) (not (is_skipped (get_or statements i []))) (clean-at statements i h below) in
    let kept : is_skipped (get_or statements i []) ≡ false = not-true (is_skipped (get_or statements i [])) clean.1 in
    let here : words_of (get_or (map line_of statements) i []) ≡ get_or statements i [] = ap words_of (get_or-map line_of statements i [])
    ∙ words_of-join (get_or statements i []) clean.0 in
    let before : statements_of (take i (map line_of statements)) ≡ take i statements = ap statements_of (take-map line_of i statements)
    ∙ statements_of-lines (take i statements) (clean-take statements i h) in
    rw (here, before, kept) refl

-- ---- statements without a fault

-- after these statements, none of those has a fault
abbrev pub AreSound : Format → List (List (List ℕ)) → List (List (List ℕ)) → Type 0
AreSound format before [] = Unit {0}
AreSound format before (words ∷ statements) =
    (fault_after_statements format before words ≡ None) × AreSound format (before ++ words ∷ []) statements

sound-at : (format : Format) (before statements : List (List (List ℕ))) (i : ℕ) → AreSound format before statements → i < length statements
    → fault_after_statements format (before ++ take i statements) (get_or statements i []) ≡ None
sound-at format before [] i h below = absurd (omega arith)
sound-at format before (words ∷ statements) zero h below = rw (append-nil before) h.0
sound-at format before (words ∷ statements) (suc i) h below =
    ap (λ prefix. fault_after_statements format prefix (get_or statements i [])) (sym (append_assoc before (words ∷ []) (take i statements)))
    ∙ sound-at format (before ++ words ∷ []) statements i h.1 (omega arith)

-- after a version that is read and these statements, none of those has a fault
abbrev pub AreSoundAfter : (Key → Bool) → ℕ → List (List (List ℕ)) → List (List (List ℕ)) → Type 0
AreSoundAfter built version before [] = Unit {0}
AreSoundAfter built version before (words ∷ statements) =
    (fault_of_statement built version (given_by before) words ≡ None) × AreSoundAfter built version (before ++ words ∷ []) statements

-- the first statement gives the version
pub AreSound-after : (format : Format) (version : ℕ) (first : List (List ℕ)) (before statements : List (List (List ℕ)))
    → version_of format.reads first ≡ Some version → AreSoundAfter format.built version before statements → AreSound format (first ∷ before) statements
AreSound-after format version first before [] read h = tt
AreSound-after format version first before (words ∷ statements) read h = (
  ap (λ found. fault_after format found (given_by before) words) read ∙ h.0,
  AreSound-after format version first (before ++ words ∷ []) statements read h.1,
)

-- no line of the text has a fault
pub IsSoundBelow-text : (format : Format) (statements : List (List (List ℕ))) → list_all is_clean statements ≡ true → AreSound format [] statements
    → IsSoundBelow format (lines_of (flat_map line statements)) (length (lines_of (flat_map line statements)))
IsSoundBelow-text format statements clean sound =
    subst (λ lines. IsSoundBelow format lines (length lines)) (sym (lines_of-text statements clean))
    (λ i below. let within : i < length statements = omega (arith, length-map statements line_of) in fault_of_line-statement format statements i clean
    within ∙ sound-at format [] statements i sound within)
