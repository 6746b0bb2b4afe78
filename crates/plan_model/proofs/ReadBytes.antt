-- What a read of bytes in memory moves, and what it leaves.
use Rattle.plan_model.proofs.Words.{◌≡◌, ℕ, ◌≤◌, ◌<◌, min, Bool, false, List, [], ◌∷◌, ◌++◌, length, take, drop, refl, sym, ap, ◌∙◌, take-append-drop, arith}
use Rattle.plan_model.proofs.Words.{◌==◌, list_any, true≢false, nat_tests, drop-append-le, take-append-le, length-take-le, MemSourceState, counted_up}
use Rattle.plan_model.proofs.Words.{given_count, is_failing, read_into}
use Rattle.std.proofs.Common.{append_assoc, take_all}
use Rattle.std.proofs.lemmas.List.{length-drop}

-- the bytes that were moved, and those that are left then, are those that were left before
pub bytes_consumed : (left source moved after into : List ℕ) (count most : ℕ) → source ≡ left → most ≤ length into
    → count ≡ min (length (take most into)) (length source) → after ≡ drop count source
    → moved ≡ take count source ++ drop count (take most into)
    → left ≡ take count (moved ++ drop most into) ++ after
bytes_consumed left source moved after into count most same fits is rest bytes =
    let first = take count source in
    let within : count ≤ length source = omega (arith, is) in
    let whole = length-take-le count source within in
    let joined = ap (λ all. all ++ drop most into) bytes ∙ append_assoc first (drop count (take most into)) (drop most into) in
    let given : take count (moved ++ drop most into) ≡ first =
    ap (take count) joined ∙ take-append-le count first _ (omega (arith, whole)) ∙ take_all count first (omega (arith, whole)) in
    sym ((λ i. given i ++ rest i) ∙ take-append-drop count source ∙ same)

empty : (xs : List ℕ) → length xs ≡ 0 → xs ≡ []
empty [] h = refl
empty (x ∷ xs) h = absurd (omega (arith, h))

-- a read into a slice that is not empty moves no byte only if none is left
pub no_byte_left : (source moved after into : List ℕ) (count most limit : ℕ) → 1 ≤ limit → 0 < length into
    → most ≡ min limit (length into) → count ≡ min (length (take most into)) (length source) → after ≡ drop count source
    → count ≡ 0 → after ≡ []
no_byte_left source moved after into count most limit some room most_is is rest none =
    let most_fits : most ≤ length into = omega (arith, most_is) in
    let all = length-take-le most into most_fits in
    let nothing = empty source (omega (arith, is, most_is, all, none)) in
    rest ∙ ap (drop count) nothing ∙ empty (drop count []) (omega (arith, length-drop {A = ℕ} count []))

-- a call fails if its number is listed
pub is_failing_at : (source : MemSourceState) (call : ℕ) (fails : List ℕ) → call ≡ counted_up source.calls → fails ≡ source.fails
    → false ≡ list_any (λ number. number == call) fails → is_failing source ≡ false
is_failing_at source call fails next same listed = sym (listed ∙ (λ i. list_any (λ number. number == next i) (same i)))

-- a list that a test found not empty
pub some_room : (xs : List ℕ) (is_empty : Bool) → is_empty ≡ (length xs == 0) → is_empty ≡ false → 0 < length xs
some_room [] is_empty is not = absurd (true≢false (sym is ∙ not))
some_room (x ∷ xs) is_empty is not = omega arith

not_zero : (n : ℕ) → 0 < n → (n == 0) ≡ false
not_zero n h = grind (arith, nat_tests)

-- what a slice holds after a read that does not fail, if the bytes were moved into its first places
pub slice_read : (state : MemSourceState) (source moved into : List ℕ) (count most : ℕ) → source ≡ state.left → 0 < length into
    → is_failing state ≡ false → most ≡ min state.most (length into) → count ≡ min (length (take most into)) (length source)
    → moved ≡ take count source ++ drop count (take most into) → moved ++ drop most into ≡ read_into state into
slice_read state source moved into count most same room works most_is is bytes =
    let most_fits : most ≤ length into = omega (arith, most_is) in
    let all = length-take-le most into most_fits in
    let within : count ≤ length (take most into) = omega (arith, is) in
    let given : count ≡ given_count state (length into) = omega (arith, is, most_is, all, ap length same) in
    let joined = ap (λ front. front ++ drop most into) bytes ∙ append_assoc (take count source) (drop count (take most into)) (drop most into)
    ∙ ap (λ rest. take count source ++ rest)
    (sym (drop-append-le count (take most into) (drop most into) within) ∙ ap (drop count) (take-append-drop most into)) in
    rw (not_zero (length into) room, works) (joined ∙ (λ i. take (given i) (same i) ++ drop (given i) into))
