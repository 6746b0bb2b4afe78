-- The canonical text of a scene is not longer than a text may be.
use Rattle.scene_text.proofs.Words.{◌≡◌, ℕ, ◌+◌, ◌*◌, ◌≤◌, Bool, true, false, cond, eqb, suc, ℤ, pos, negsuc, List, [], ◌∷◌, ◌++◌, length, map, sym, ap, ◌∙◌}
use Rattle.scene_text.proofs.Words.{subst, arith, signed_decimal, flat_map, nat_tests, length-decimal-le, flat_map-append, Scene, Key, every_key, MOST_GOALS}
use Rattle.scene_text.proofs.Words.{MOST_TEXT_BYTES, MayStand, line, format_name, version_word, name_of, most_corners, most_lines, statement}
use Rattle.scene_text.proofs.Words.{version_statement, canonical_text}
use Rattle.std.proofs.Math.Nat.{mul-le-mul_right, suc-mul}
use Rattle.std.proofs.lemmas.List.{length-append}
use Rattle.plan_model.specs.declared.text_terms.Key.TheVariants as keys
use Rattle.scene_text.proofs.TextLemmas.{line-spaced}
use Rattle.scene_text.proofs.DecimalWords.{IsShort}
use Rattle.scene_text.proofs.CanonicalWords.{AreShort, short-ranged}
use Rattle.scene_text.proofs.CanonicalFaults.{AreAll, table_of, table-fit, table-few, lines_for, lines_of_scene, canonical-lines}

-- ---- one line

-- a number of 64 bits has at most 20 digits, and maybe a sign
length-signed : (z : ℤ) → IsShort z → length (signed_decimal z) ≤ 21
length-signed (pos n) h = let digits = length-decimal-le 20 n (omega arith) (omega arith) h in omega arith
length-signed (negsuc n) h = let digits = length-decimal-le 20 (suc n) (omega arith) (omega arith) h in omega arith

length-spaced : (zs : List ℤ) → AreShort zs → length (flat_map (λ z. 32 ∷ signed_decimal z) zs) ≤ 22 * length zs
length-spaced [] h = omega arith
length-spaced (z ∷ zs) h =
    let here = length-signed z h.0 in
    let rest = length-spaced zs h.1 in
    let both_parts = length-append (32 ∷ signed_decimal z) (flat_map (λ y. 32 ∷ signed_decimal y) zs) in
    omega arith

-- the longest key is `clearance`
length-name : (key : Key) → length (name_of key) ≤ 9
length-name keys.Room = omega arith
length-name key = omega arith

length-line : (version : ℕ) (key : Key) (zs : List ℤ) → MayStand version key zs
    → length (line (statement key zs)) ≤ length (name_of key) + 22 * length zs + 1
length-line version key zs fit =
    let spaced = flat_map (λ z. 32 ∷ signed_decimal z) zs in
    let pieces = ap length (line-spaced (name_of key) zs) in
    let outer = length-append (name_of key) (spaced ++ 10 ∷ []) in
    let inner = length-append spaced (10 ∷ []) in
    let numbers = length-spaced zs (short-ranged version key zs fit.ranged) in
    omega arith

-- the most bytes of a line with the key
abbrev most_bytes : Key → ℕ
most_bytes keys.Mark = 49
most_bytes key = 10 + 44 * most_corners key

length-fit : (version : ℕ) (key : Key) (zs : List ℤ) → MayStand version key zs → length (line (statement key zs)) ≤ most_bytes key
length-fit version keys.Mark zs h =
    let line = length-line version keys.Mark zs h in
    let fits = h.count in
    let two : length zs ≡ 2 = grind (arith, nat_tests) in
    omega arith
length-fit version key zs h =
    let line = length-line version key zs h in
    let name = length-name key in
    let fits = h.few in
    let few : length zs ≤ 2 * most_corners key = grind (arith, nat_tests) in
    omega arith

-- ---- the lines of keys

sum-below : (whole a b c p q : ℕ) → whole ≡ a + b → a ≤ c → b ≤ p → q ≡ p + c → whole ≤ q
sum-below whole a b c p q e f g h = omega arith

length-lists : (version : ℕ) (key : Key) (lists : List (List ℤ)) → AreAll (MayStand version key) lists
    → length (flat_map line (map (statement key) lists)) ≤ length lists * most_bytes key
length-lists version key [] h = omega arith
length-lists version key (zs ∷ lists) h =
    sum-below _ _ _ (most_bytes key) (length lists * most_bytes key) _ (length-append (line (statement key zs)) (flat_map line (map (statement key) lists)))
    (length-fit version key zs h.0) (length-lists version key lists h.1) (suc-mul (length lists) (most_bytes key))

abbrev most_for : ℕ → List Key → ℕ
most_for version [] = 0
most_for version (key ∷ others) = most_lines version key * most_bytes key + most_for version others

length-keys : (scene : Scene) (others : List Key) → length (flat_map line (lines_for (table_of scene) others)) ≤ most_for scene.version others
length-keys scene [] = omega arith
length-keys scene (key ∷ others) =
    let here = map (statement key) (table_of scene key) in
    let rest = lines_for (table_of scene) others in
    let lines = ap length (flat_map-append line here rest) ∙ length-append (flat_map line here) (flat_map line rest) in
    let few = mul-le-mul_right (most_bytes key) (table-few scene key) in
    omega (arith, lines, few, length-lists scene.version key (table_of scene key) (table-fit scene key), length-keys scene others)

-- ---- the whole text

few-goals : (first : Bool) → cond first 1 MOST_GOALS ≤ 16
few-goals true = omega arith
few-goals false = omega arith

length-version : (first : Bool) → length (line (format_name ∷ cond first (version_word 1) (version_word 2) ∷ [])) ≤ 7
length-version true = omega arith
length-version false = omega arith

-- the text is not too long
pub length-canonical : (scene : Scene) → length (canonical_text scene) ≤ MOST_TEXT_BYTES
length-canonical scene =
    let lines = length-append (line (version_statement scene.version)) (flat_map line (lines_of_scene scene)) in
    let goals = few-goals (eqb scene.version 1) in
    let keys = length-keys scene every_key in
    let whole : length (flat_map line (version_statement scene.version ∷ lines_of_scene scene)) ≤ MOST_TEXT_BYTES = omega (
      arith,
      lines,
      goals,
      keys,
      length-version (eqb scene.version 1),
    ) in
    subst (λ sts. length (flat_map line sts) ≤ MOST_TEXT_BYTES) (canonical-lines scene) whole

-- a text that is the canonical one is not too long
pub length-written : (scene : Scene) (text : List ℕ) → text ≡ canonical_text scene → length text ≤ MOST_TEXT_BYTES
length-written scene text same = subst (λ t. length t ≤ MOST_TEXT_BYTES) (sym same) (length-canonical scene)
