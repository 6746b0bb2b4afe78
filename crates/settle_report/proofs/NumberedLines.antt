-- A line for each number below a limit, one number more at a time.
use Rattle.settle_report.proofs.Words.{◌≡◌, ℕ, ◌+◌, List, [], ◌∷◌, ◌++◌, map, arith, sym, ap, ◌∙◌, append_assoc, append-nil, range_with_len, flat_map}
use Rattle.settle_report.proofs.Words.{flat_map-append, flat_map-map, map-range_with_len_more}

-- the lines below a limit of one more are those below it and the limit's own
pub lines-more : (line_of : ℕ → List ℕ) (n : ℕ)
    → flat_map line_of (range_with_len 0 (n + 1)) ≡ flat_map line_of (range_with_len 0 n) ++ line_of n
lines-more line_of n =
    let own : List ℕ → List ℕ = λ line. line in
    sym (flat_map-map own line_of (range_with_len 0 (n + 1)))
    ∙ ap (flat_map own) (map-range_with_len_more line_of 0 n n (omega arith))
    ∙ flat_map-append own (map line_of (range_with_len 0 n)) (line_of n ∷ [])
    ∙ ap (λ lines. lines ++ (line_of n ++ [])) (flat_map-map own line_of (range_with_len 0 n))
    ∙ ap (λ line. flat_map line_of (range_with_len 0 n) ++ line) (append-nil (line_of n))

-- a text that has the lines below n has with the next line those below n + 1
pub lines-pushed : (line_of : ℕ → List ℕ) (n : ℕ) (before text more : List ℕ)
    → text ≡ before ++ flat_map line_of (range_with_len 0 n) → more ≡ text ++ line_of n
    → more ≡ before ++ flat_map line_of (range_with_len 0 (n + 1))
lines-pushed line_of n before text more lines pushed =
    pushed
    ∙ ap (λ bytes. bytes ++ line_of n) lines
    ∙ append_assoc before (flat_map line_of (range_with_len 0 n)) (line_of n)
    ∙ ap (λ bytes. before ++ bytes) (sym (lines-more line_of n))
