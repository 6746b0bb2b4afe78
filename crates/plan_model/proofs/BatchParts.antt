-- The parts of a text: the first of them, its lines, and what comes after it.
use Rattle.plan_model.proofs.Words.{◌≡◌, ℕ, zero, suc, ◌+◌, ◌<◌, ◌==◌, ◌&&◌, Bool, true, false, not, List, [], ◌∷◌, ◌++◌, length, get_or, drop, refl, sym, ap}
use Rattle.plan_model.proofs.Words.{subst, ◌∙◌, arith, add-one, bytes_eq, lines_of, onto_first, Part, separator, onto_first_part, parts_of, text_of}
use Rattle.plan_model.proofs.Words.{lines_before, and_parts, and_from, cond_both}

-- ---- lines have no line feed

-- no byte of the line is a line feed
abbrev pub is_line : List ℕ → Bool
is_line [] = true
is_line (b ∷ bytes) = not (b == 10) && is_line bytes

-- none of the lines has one
abbrev pub are_lines : List (List ℕ) → Bool
are_lines [] = true
are_lines (line ∷ lines) = is_line line && are_lines lines

are_lines-onto : (b : ℕ) (lines : List (List ℕ)) → (b == 10) ≡ false → are_lines lines ≡ true → are_lines (onto_first b lines) ≡ true
are_lines-onto b [] e h = rw e refl
are_lines-onto b (first ∷ rest) e h = rw e h

pub are_lines-of_text : (text : List ℕ) → are_lines (lines_of text) ≡ true
are_lines-of_text [] = refl
are_lines-of_text (b ∷ text) =
    let rest = are_lines-of_text text in
    cond_both (b == 10) ([] ∷ lines_of text) (onto_first b (lines_of text)) (λ lines. are_lines lines ≡ true) (λ e. rest)
    (λ e. are_lines-onto b (lines_of text) e rest)

-- ---- the lines of a part's text

-- a line and its line feed are cut off
lines_of-line : (line text : List ℕ) → is_line line ≡ true → lines_of (line ++ 10 ∷ text) ≡ line ∷ lines_of text
lines_of-line [] text h = refl
lines_of-line (b ∷ line) text h =
    let plain : (b == 10) ≡ false = plain_byte (b == 10) (is_line line) h in
    let rest : is_line line ≡ true = (and_parts (not (b == 10)) (is_line line) h).1 in
    rw plain (ap (onto_first b) (lines_of-line line text rest))
  where
    plain_byte : (feed rest : Bool) → (not feed && rest) ≡ true → feed ≡ false
    plain_byte true rest h = absurd (cc)
    plain_byte false rest h = refl

-- the lines of a part's text are those of the part
pub lines_of-text_of : (part : Part) → are_lines part ≡ true → lines_of (text_of part) ≡ part
lines_of-text_of [] h = refl
lines_of-text_of (line ∷ part) h =
    lines_of-line line (text_of part) (and_parts (is_line line) (are_lines part) h).0
    ∙ ap (λ lines. line ∷ lines) (lines_of-text_of part (and_parts (is_line line) (are_lines part) h).1)

-- ---- the first part

-- the first part of lines
abbrev pub first_part : List (List ℕ) → Part
first_part lines = get_or (parts_of lines) 0 []

first_part-onto : (line : List ℕ) (parts : List Part) → get_or (onto_first_part line parts) 0 [] ≡ line ∷ get_or parts 0 []
first_part-onto line [] = refl
first_part-onto line (first ∷ rest) = refl

-- a line that is not `next` is the first one of the first part
pub first_part-line : (line : List ℕ) (lines : List (List ℕ)) → bytes_eq line separator ≡ false → first_part (line ∷ lines) ≡ line ∷ first_part lines
first_part-line line lines e = rw e (first_part-onto line (parts_of lines))

-- the parts after the first
abbrev pub later_parts : List (List ℕ) → List Part
later_parts lines = drop 1 (parts_of lines)

later_parts-onto : (line : List ℕ) (parts : List Part) → drop 1 (onto_first_part line parts) ≡ drop 1 parts
later_parts-onto line [] = refl
later_parts-onto line (first ∷ rest) = refl

pub later_parts-line : (line : List ℕ) (lines : List (List ℕ)) → bytes_eq line separator ≡ false → later_parts (line ∷ lines) ≡ later_parts lines
later_parts-line line lines e = rw e (later_parts-onto line (parts_of lines))

parts-split : (parts : List Part) → 0 < length parts → parts ≡ get_or parts 0 [] ∷ drop 1 parts
parts-split [] some = absurd (omega arith)
parts-split (first ∷ rest) some = refl

some_part-onto : (line : List ℕ) (parts : List Part) → 0 < length (onto_first_part line parts)
some_part-onto line [] = omega arith
some_part-onto line (first ∷ rest) = omega arith

-- there is one part at least
pub some_part : (lines : List (List ℕ)) → 0 < length (parts_of lines)
some_part [] = omega arith
some_part (line ∷ lines) =
    cond_both (bytes_eq line separator) ([] ∷ parts_of lines) (onto_first_part line (parts_of lines)) (λ parts. 0 < length parts)
    (λ e. omega arith) (λ e. some_part-onto line (parts_of lines))

-- the parts are the first one and the later ones
pub parts_of-first : (lines : List (List ℕ)) → parts_of lines ≡ first_part lines ∷ later_parts lines
parts_of-first lines = parts-split (parts_of lines) (some_part lines)

are_lines-first_of : (next : Bool) (line : List ℕ) (lines : List (List ℕ)) → bytes_eq line separator ≡ next → is_line line ≡ true
    → are_lines (first_part lines) ≡ true → are_lines (first_part (line ∷ lines)) ≡ true
are_lines-first_of true line lines e h rest = rw e refl
are_lines-first_of false line lines e h rest = subst (λ part. are_lines part ≡ true) (sym (first_part-line line lines e)) (and_from (is_line line) _ h rest)

pub are_lines-first : (lines : List (List ℕ)) → are_lines lines ≡ true → are_lines (first_part lines) ≡ true
are_lines-first [] h = refl
are_lines-first (line ∷ lines) h =
    are_lines-first_of (bytes_eq line separator) line lines refl (and_parts (is_line line) (are_lines lines) h).0
    (are_lines-first lines (and_parts (is_line line) (are_lines lines) h).1)

-- the lines of the first part's text
pub lines_of-first : (text : List ℕ) → lines_of (text_of (first_part (lines_of text))) ≡ first_part (lines_of text)
lines_of-first text = lines_of-text_of (first_part (lines_of text)) (are_lines-first (lines_of text) (are_lines-of_text text))

-- ---- parts by number

lines_before-suc : (part : Part) (parts : List Part) (k : ℕ) → lines_before (part ∷ parts) (k + 1) ≡ length part + 1 + lines_before parts k
lines_before-suc part parts k = ap (lines_before (part ∷ parts)) (add-one k)

-- how many lines stand before the part after part k
pub lines_before-next : (parts : List Part) (k : ℕ) → k < length parts → lines_before parts (k + 1) ≡ lines_before parts k + length (get_or parts k []) + 1
lines_before-next [] k l = absurd (omega arith)
lines_before-next (part ∷ parts) zero l = omega (arith, lines_before-suc part parts zero)
lines_before-next (part ∷ parts) (suc k) l =
    let next : lines_before parts (k + 1) ≡ lines_before parts (suc k) = ap (lines_before parts) (add-one k) in
    omega (arith, lines_before-suc part parts (suc k), next, lines_before-next parts k (omega (arith, l)))
