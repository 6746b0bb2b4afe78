-- Cutting the first line off a text.
use Rattle.plan_model.proofs.Words.{◌≡◌, ℕ, ◌+◌, ◌<◌, Bool, true, false, cond, not, eqb, List, [], ◌∷◌, suc, length, take, drop, refl, ap, ◌∙◌, arith}
use Rattle.plan_model.proofs.Words.{position_or_len, lines_of, onto_first}
use Rattle.std.proofs.lemmas.List.{drop-drop}

-- how many bytes the first line has
abbrev pub line_length : List ℕ → ℕ
line_length text = position_or_len (λ b. eqb b 10) text

-- a byte before those of the first line
onto_first-cut : (b n : ℕ) (text : List ℕ) (lines : List (List ℕ)) → lines ≡ take n text ∷ lines_of (drop (n + 1) text)
    → onto_first b lines ≡ take (1 + n) (b ∷ text) ∷ lines_of (drop (1 + n + 1) (b ∷ text))
onto_first-cut b n text lines e =
    let one : 1 + n ≡ suc n = omega arith in
    let two : 1 + n + 1 ≡ suc (n + 1) = omega arith in
    rw (two, one, e)

lines_of-cut_at : (is_end : Bool) (b : ℕ) (text : List ℕ)
    → (0 < length text → lines_of text ≡ take (line_length text) text ∷ lines_of (drop (line_length text + 1) text))
    → cond is_end ([] ∷ lines_of text) (onto_first b (lines_of text)) ≡ take (cond (not is_end) (1 + line_length text) 0) (b ∷ text)
    ∷ lines_of (drop (cond (not is_end) (1 + line_length text) 0 + 1) (b ∷ text))
lines_of-cut_at true b text h = refl
lines_of-cut_at false b [] h = refl
lines_of-cut_at false b (c ∷ text) h =
    onto_first-cut b (line_length (c ∷ text)) (c ∷ text) (lines_of (c ∷ text)) (h (omega arith))

-- the first line, and the lines after its line feed
pub lines_of-cut : (text : List ℕ) → 0 < length text → lines_of text ≡ take (line_length text) text ∷ lines_of (drop (line_length text + 1) text)
lines_of-cut [] h = absurd (omega arith)
lines_of-cut (b ∷ text) h = lines_of-cut_at (eqb b 10) b text (lines_of-cut text)

-- the first line, what stands from its line feed on, and the rest after that
pub lines_of-split : (text line after rest : List ℕ) (n : ℕ) → 0 < length text → n ≡ line_length text → line ≡ take n text → after ≡ drop n text
    → rest ≡ drop 1 after → lines_of text ≡ line ∷ lines_of rest
lines_of-split text line after rest n some place prefix back left =
    let same : rest ≡ drop (n + 1) text = left ∙ ap (drop 1) back ∙ drop-drop 1 n text in
    lines_of-cut text some ∙ rw (prefix, same, place)

-- if nothing stands after a line, that is all that is left
pub rest_of_nothing : (after : List ℕ) → length after < 1 → after ≡ drop 1 after
rest_of_nothing [] h = refl
rest_of_nothing (b ∷ after) h = absurd (omega arith)
