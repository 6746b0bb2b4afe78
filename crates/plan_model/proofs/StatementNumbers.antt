-- The grammar's words at one more statement and at one more line.
use Rattle.plan_model.proofs.Words.{◌≡◌, ℕ, not, Bool, true, false, cond, Option, Some, None, List, [], ◌∷◌, ◌++◌, map, refl, sym, ap, ◌∙◌, bytes_eq}
use Rattle.plan_model.proofs.Words.{map-append, append-nil, filter-append, bytes_eq-Decides, Key, words_of, statements_of, name_of, every_key, key_among}
use Rattle.plan_model.proofs.Words.{is_key, key_within, key_of, begins_with, numbers_in, given_by, with_statement, cond_both}
use Rattle.std.proofs.Common.{filter}
use mathlib.Core.Path.{fun_ext}
use Rattle.plan_model.specs.declared.text_terms.Key.TheVariants as keys
use Rattle.plan_model.specs.Texts.TextLines.{is_skipped}

-- ---- keys

-- a word is the name of the key that it names
name-among : (word : List ℕ) (keys : List Key) (key : Key) → key_among word keys ≡ Some key → word ≡ name_of key
name-among word [] key e = absurd (cc)
name-among word (k ∷ ks) key e =
    cond_both (bytes_eq word (name_of k)) (Some k) (key_among word ks) (λ found. found ≡ Some key → word ≡ name_of key)
    (λ same f. let this : k ≡ key = cc in (bytes_eq-Decides word (name_of k)).0 same ∙ ap name_of this) (λ differ. name-among word ks key) e

key_within-some : (version : ℕ) (found : Option Key) (key : Key) → key_within version found ≡ Some key → found ≡ Some key
key_within-some version None key e = absurd (cc)
key_within-some version (Some found) key e =
    cond_both (is_key version found) (Some found) None (λ o. o ≡ Some key → Some found ≡ Some key) (λ yes f. f) (λ no f. absurd (cc)) e

pub name-key_of : (version : ℕ) (word : List ℕ) (key : Key) → key_of version word ≡ Some key → word ≡ name_of key
name-key_of version word key e = name-among word every_key key (key_within-some version (key_among word every_key) key e)

-- the name of a key names it
key_among-name : (key : Key) → key_among (name_of key) every_key ≡ Some key
key_among-name keys.Room = refl
key_among-name key = refl

-- the name of a key of the version names it
pub key_of-name : (version : ℕ) (key : Key) → is_key version key ≡ true → key_of version (name_of key) ≡ Some key
key_of-name version key e = ap (key_within version) (key_among-name key) ∙ ap (λ b. cond b (Some key) None) e

-- a word that names a key begins the statements of that key alone
pub key-begun : (version : ℕ) (word : List ℕ) (words : List (List ℕ)) (key other : Key) → key_of version word ≡ Some key
    → begins_with other (word ∷ words) ≡ true → key ≡ other
key-begun version word words key other e same =
    let named : word ≡ name_of other = (bytes_eq-Decides word (name_of other)).0 same in
    let among : key_among word every_key ≡ Some key = key_within-some version (key_among word every_key) key e in
    let found : Some key ≡ Some other = sym among ∙ ap (λ w. key_among w every_key) named ∙ key_among-name other in
    cc

-- ---- the statements with a key

-- what two runs of statements give, one after the other
pub given_by-append : (xs ys : List (List (List ℕ))) (key : Key) → given_by (xs ++ ys) key ≡ given_by xs key ++ given_by ys key
given_by-append xs ys key =
    ap (map numbers_in) (filter-append (begins_with key) xs ys) ∙ map-append numbers_in (filter (begins_with key) xs) (filter (begins_with key) ys)

-- one more statement
pub given_by-push : (before : List (List (List ℕ))) (words : List (List ℕ)) → given_by (before ++ words ∷ []) ≡ with_statement (given_by before) words
given_by-push before words =
    fun_ext (λ key. given_by-append before (words ∷ []) key
    ∙ elim (begins_with key words) as (λ b. given_by before key
    ++ map numbers_in (cond b (words ∷ []) []) ≡ cond b (given_by before key ++ numbers_in words ∷ []) (given_by before key))
    [ true ↦ refl | false ↦ append-nil (given_by before key) ])

-- ---- one more line

abbrev is_kept : List (List ℕ) → Bool
is_kept words = not (is_skipped words)

pub statements_of-push : (lines : List (List ℕ)) (line : List ℕ)
    → statements_of (lines ++ line ∷ []) ≡ statements_of lines ++ cond (is_kept (words_of line)) (words_of line ∷ []) []
statements_of-push lines line =
    ap (filter is_kept) (map-append words_of lines (line ∷ [])) ∙ filter-append is_kept (map words_of lines) (words_of line ∷ [])
