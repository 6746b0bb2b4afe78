-- The key that a word names, from the word's length and each of its bytes, which is what the arms of a `match` on byte strings test.
use Rattle.scene_text.proofs.Words.{◌≡◌, ℕ, suc, Some, List, [], ◌∷◌, length, get_or, refl, sym, ap, ap₂, ◌∙◌, arith, ⊤, Key, name_of, every_key, key_among}
use Rattle.plan_model.specs.declared.text_terms.Key.TheVariants as keys

-- these bytes stand at the places from the first on
abbrev pub Reads : (ℕ → ℕ) → List ℕ → Type 0
Reads at [] = ⊤
Reads at (byte ∷ bytes) = (at 0 ≡ byte) × Reads (λ i. at (suc i)) bytes

word-from-bytes : (word text : List ℕ) → length word ≡ length text → Reads (λ i. get_or word i 0) text → word ≡ text
word-from-bytes [] [] long reads = refl
word-from-bytes [] (byte ∷ bytes) long reads = absurd (omega (arith, long))
word-from-bytes (b ∷ rest) [] long reads = absurd (omega (arith, long))
word-from-bytes (b ∷ rest) (byte ∷ bytes) long reads =
    ap₂ (λ x xs. x ∷ xs) reads.0 (word-from-bytes rest bytes (omega (arith, long)) reads.1)

-- the name of a key names it
key_among-name : (key : Key) → key_among (name_of key) every_key ≡ Some key
key_among-name keys.Room = refl
key_among-name key = refl

-- a word with the length and the bytes of a key's name names the key
pub key-from-bytes : (word : List ℕ) (key : Key) → length word ≡ length (name_of key) → Reads (λ i. get_or word i 0) (name_of key)
    → Some key ≡ key_among word every_key
key-from-bytes word key long reads =
    let same : word ≡ name_of key = word-from-bytes word (name_of key) long reads in
    sym (ap (λ w. key_among w every_key) same ∙ key_among-name key)
