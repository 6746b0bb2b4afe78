-- Fields that stand beside one another in a word: `|` adds them up.
use Rattle.grown_runs.proofs.Words.{◌≡◌, ℕ, ◌+◌, ◌*◌, ◌<◌, ◌≤◌, ◌%◌, ◌^◌, bit_or, refl, sym, ap, ◌∙◌, arith, or_shifted}

-- a number below what stands at bit j and above
pub or-below : (j high low q : ℕ) → high ≡ q * 2 ^ j → low < 2 ^ j → bit_or high low ≡ high + low
or-below j high low q e below = ap (λ n. bit_or n low) e ∙ or_shifted q j low below ∙ ap (λ n. n + low) (sym e)

-- a field that is shifted to bit k, below what stands at bit j and above
pub or-shifted : (j high k field q : ℕ) → high ≡ q * 2 ^ j → field * 2 ^ k < 2 ^ j → 2 ^ j ≤ 2 ^ 63
    → bit_or high (field * 2 ^ k % 2 ^ 64) ≡ high + field * 2 ^ k
or-shifted j high k field q e below small =
    let whole : field * 2 ^ k % 2 ^ 64 ≡ field * 2 ^ k = omega arith in
    ap (bit_or high) whole ∙ or-below j high (field * 2 ^ k) q e below

-- a word of two fields: one that is shifted to bit k, and one below it
pub or-two : (k field low q : ℕ) → 2 ^ 63 + field * 2 ^ k ≡ q * 2 ^ k → field * 2 ^ k < 2 ^ 63 → low < 2 ^ k
    → bit_or (bit_or (2 ^ 63) (field * 2 ^ k % 2 ^ 64)) low ≡ 2 ^ 63 + field * 2 ^ k + low
or-two k field low q e fits below =
    ap (λ n. bit_or n low) (or-shifted 63 (2 ^ 63) k field 1 refl fits (omega arith))
    ∙ or-below k (2 ^ 63 + field * 2 ^ k) low q e below

-- the word of a record, by its five fields
pub or-record :
    (last number nearest turn worker : ℕ) → last < 2 ^ 18 → number < 2 ^ 2 → nearest < 2 ^ 18 → turn < 2 ^ 18 → worker < 2 ^ 6
    → bit_or
    (bit_or
    (bit_or (bit_or (bit_or (2 ^ 63) (last * 2 ^ 44 % 2 ^ 64)) (number * 2 ^ 42 % 2 ^ 64)) (nearest * 2 ^ 24 % 2 ^ 64))
    (turn * 2 ^ 6 % 2 ^ 64))
    worker
    ≡ 2 ^ 63 + last * 2 ^ 44 + number * 2 ^ 42 + nearest * 2 ^ 24 + turn * 2 ^ 6 + worker
or-record last number nearest turn worker l o n t w =
    let a = 2 ^ 63 + last * 2 ^ 44 in
    let b = a + number * 2 ^ 42 in
    let d = b + nearest * 2 ^ 24 in
    ap (λ m. bit_or (bit_or (bit_or (bit_or m (number * 2 ^ 42 % 2 ^ 64)) (nearest * 2 ^ 24 % 2 ^ 64)) (turn * 2 ^ 6 % 2 ^ 64)) worker)
    (or-shifted 63 (2 ^ 63) 44 last 1 refl (omega arith) (omega arith))
    ∙ ap (λ m. bit_or (bit_or (bit_or m (nearest * 2 ^ 24 % 2 ^ 64)) (turn * 2 ^ 6 % 2 ^ 64)) worker)
    (or-shifted 44 a 42 number (2 ^ 19 + last) (omega arith) (omega arith) (omega arith))
    ∙ ap (λ m. bit_or (bit_or m (turn * 2 ^ 6 % 2 ^ 64)) worker)
    (or-shifted 42 b 24 nearest (2 ^ 21 + last * 2 ^ 2 + number) (omega arith) (omega arith) (omega arith))
    ∙ ap (λ m. bit_or m worker)
    (or-shifted 24 d 6 turn (2 ^ 39 + last * 2 ^ 20 + number * 2 ^ 18 + nearest) (omega arith) (omega arith) (omega arith))
    ∙ or-below 6 (d + turn * 2 ^ 6) worker (2 ^ 57 + last * 2 ^ 38 + number * 2 ^ 36 + nearest * 2 ^ 18 + turn) (omega arith) (omega arith)
