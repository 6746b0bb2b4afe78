-- The text of a line, word by word.
use Rattle.scene_text.proofs.Words.{◌≡◌, ℕ, ℤ, List, [], ◌∷◌, ◌++◌, map, refl, sym, ap, ◌∙◌, arith, common_steps, signed_decimal, flat_map, join_with_byte}
use Rattle.scene_text.proofs.Words.{append_assoc, append-nil, line}

-- a word, and then each number after a blank
join-spaced : (word : List ℕ) (zs : List ℤ) → join_with_byte 32 (word ∷ map signed_decimal zs) ≡ word ++ flat_map (λ z. 32 ∷ signed_decimal z) zs
join-spaced word [] = sym (append-nil word)
join-spaced word (z ∷ zs) =
    ap (λ text. word ++ 32 ∷ text) (join-spaced (signed_decimal z) zs)

-- the line of a word and numbers, from its pieces
pub line-spaced : (word : List ℕ) (zs : List ℤ) → line (word ∷ map signed_decimal zs) ≡ word ++ (flat_map (λ z. 32 ∷ signed_decimal z) zs ++ 10 ∷ [])
line-spaced word zs =
    ap (λ text. text ++ 10 ∷ []) (join-spaced word zs) ∙ append_assoc word (flat_map (λ z. 32 ∷ signed_decimal z) zs) (10 ∷ [])

-- a text after the word, the numbers and the line feed
pub line-pushed : (before named spaced after word : List ℕ) (zs : List ℤ) → named ≡ before ++ word
    → spaced ≡ named ++ flat_map (λ z. 32 ∷ signed_decimal z) zs → after ≡ spaced ++ 10 ∷ [] → after ≡ before ++ line (word ∷ map signed_decimal zs)
line-pushed before named spaced after word zs e f g =
    rw (line-spaced word zs, g, f, e, append_assoc, append_assoc) refl

-- the lines of statements, written one part after another
pub lines-written : (whole fifth fourth third second first : List ℕ) (version room body : List (List ℕ))
    (obstacles clearance task plan : List (List (List ℕ)))
    → whole ≡ fifth ++ flat_map line plan → fifth ≡ fourth ++ flat_map line task → fourth ≡ third ++ flat_map line clearance
    → third ≡ second ++ flat_map line obstacles → second ≡ first ++ line body → first ≡ flat_map line (version ∷ room ∷ [])
    → whole ≡ flat_map line (version ∷ room ∷ body ∷ (obstacles ++ (clearance ++ (task ++ plan))))
lines-written whole fifth fourth third second first version room body obstacles clearance task plan e f g h k l = grind (arith, common_steps)
