-- Of lines without a fault, the numbers after each key may stand there by the version that was read, no key stands too often, and each is
-- supported.
use Rattle.plan_model.proofs.Words.{◌≡◌, ℕ, zero, suc, ◌*◌, ◌<◌, ◌≤◌, not, Bool, true, false, cond, ltb, leb, ℤ, Option, Some, None, List, [], ◌∷◌, ◌++◌}
use Rattle.plan_model.proofs.Words.{length, map, take, get_or, All, refl, sym, ap, ◌∙◌, subst, arith, take-suc, list_all, cond_both, or_parts, leb-false}
use Rattle.plan_model.proofs.Words.{append-nil, length-map, length_push, All-nil, All-push, Key, Kind, lines_of, words_of, statements_of, is_number, value_of}
use Rattle.plan_model.proofs.Words.{key_of, fits_words, most_corners, most_lines, Format, Given, begins_with, given_by, with_statement, is_repeated}
use Rattle.plan_model.proofs.Words.{is_too_many, is_in_range, has_corners, fault_at_key, fault_of_statement, fault_after, first_failing, checks_of, MayStand}
use Rattle.plan_model.proofs.Words.{AllMayStand, version_given, given_after_version, IsSoundBelow}
use Rattle.std.proofs.lemmas.List.{take_all}
use Rattle.plan_model.specs.declared.text_terms.Kind.TheVariants as kinds
use Rattle.plan_model.specs.Texts.TextLines.{is_skipped}
use Rattle.plan_model.proofs.StatementNumbers.{key-begun, given_by-push, statements_of-push}

-- ---- the numbers of one statement

-- the first of the checks that fails, by what each finds
abbrev checked : Bool → Bool → Bool → Bool → Bool → Bool → Bool → Option Kind
checked built repeated fits many numbers ranged corners =
    first_failing ((built, kinds.Unbuilt) ∷ (not repeated, kinds.Repeat) ∷ (fits, kinds.Words) ∷ (not many, kinds.Many) ∷ (numbers, kinds.Number)
    ∷ (ranged, kinds.Range) ∷ (corners, kinds.Corners) ∷ [])

-- what checks that all pass have found
record AllPassed (built fits many ranged corners : Bool) : Type 0 where
  supported : built ≡ true
  fits_words : fits ≡ true
  few : many ≡ false
  in_range : ranged ≡ true
  has_corners : corners ≡ true

-- if no check fails, each passes
passed : (built repeated fits many numbers ranged corners : Bool) → checked built repeated fits many numbers ranged corners ≡ None
    → AllPassed built fits many ranged corners
passed false repeated fits many numbers ranged corners e = absurd (cc)
passed true true fits many numbers ranged corners e = absurd (cc)
passed true false false many numbers ranged corners e = absurd (cc)
passed true false true true numbers ranged corners e = absurd (cc)
passed true false true false false ranged corners e = absurd (cc)
passed true false true false true false corners e = absurd (cc)
passed true false true false true true false e = absurd (cc)
passed true false true false true true true e = record {
  supported = refl;
  fits_words = refl;
  few = refl;
  in_range = refl;
  has_corners = refl;
}

-- what the checks of a statement say
record Passes (built : Key → Bool) (version : ℕ) (given : Given) (key : Key) (zs : List ℤ) : Type 0 where
  supported : built key ≡ true
  stand : MayStand version key zs
  few : length (given key) < most_lines version key

Passes-key : (built : Key → Bool) (version : ℕ) (given : Given) (key : Key) (words : List (List ℕ))
    → first_failing (checks_of built version given key words) ≡ None → Passes built version given key (map value_of words)
Passes-key built version given key words e =
    let tests = passed (built key) (is_repeated version given key) (fits_words key (length words)) (is_too_many version given key (length words))
    (list_all is_number words) (is_in_range version key (map value_of words)) (has_corners key (map value_of words)) e in
    let few = or_parts (ltb (2 * most_corners key) (length words)) (leb (most_lines version key) (length (given key))) tests.few in
    let long : length words ≡ length (map value_of words) = sym (length-map words value_of) in
    record {
      supported = tests.supported;
      stand = record {
        count = subst (λ n. fits_words key n ≡ true) long tests.fits_words;
        few = subst (λ n. ltb (2 * most_corners key) n ≡ false) long few.0;
        ranged = tests.in_range;
        corners = tests.has_corners;
      };
      few = leb-false (most_lines version key) (length (given key)) few.1;
    }

-- ---- the numbers of all statements

-- Each line may stand, and has a key that is supported.
pub record IsSoundGiven (built : Key → Bool) (version : ℕ) (given : Given) : Type 0 where
  pub stand : AllMayStand version given
  pub supported : (key : Key) → built key ≡ false → given key ≡ []

IsSoundGiven-none : (built : Key → Bool) (version : ℕ) → IsSoundGiven built version (given_by [])
IsSoundGiven-none built version = record {
  stand = record { stand = λ key. All-nil (MayStand version key); few = λ key. omega arith };
  supported = λ key unbuilt. refl;
}

IsSoundGiven-push : (built : Key → Bool) (version : ℕ) (given : Given) (key : Key) (word : List ℕ) (words : List (List ℕ))
    → key_of version word ≡ Some key → Passes built version given key (map value_of words) → IsSoundGiven built version given
    → IsSoundGiven built version (with_statement given (word ∷ words))
IsSoundGiven-push built version given key word words e passes h =
    let zs = map value_of words in
    let same_key : (other : Key) → begins_with other (word ∷ words) ≡ true
    → Passes built version given other zs = λ other same. subst (λ k. Passes built version given k zs) (key-begun version word words key other e same) passes in
    record {
      stand = record {
        stand = λ other. cond_both (begins_with other (word ∷ words)) (given other ++ zs ∷ []) (given other) (All (MayStand version other))
            (λ same. All-push (MayStand version other) (given other) zs (h.stand.stand other) (same_key other same).stand) (λ differ. h.stand.stand other);
        few = λ other. cond_both (begins_with other (word ∷ words)) (given other ++ zs ∷ []) (given other) (λ lists. length lists ≤ most_lines version other)
            (λ same. omega (arith, (same_key other same).few, length_push (given other) zs)) (λ differ. h.stand.few other);
      };
      supported = λ other unbuilt. cond_both (begins_with other (word ∷ words)) (given other ++ zs ∷ []) (given other) (λ lists. lists ≡ [])
          (λ same. let clash : true ≡ false = sym (same_key other same).supported ∙ unbuilt in absurd (cc)) (λ differ. h.supported other unbuilt);
    }

IsSoundGiven-key : (built : Key → Bool) (version : ℕ) (given : Given) (found : Option Key) (word : List ℕ) (words : List (List ℕ))
    → key_of version word ≡ found → fault_at_key built version given found words ≡ None → IsSoundGiven built version given
    → IsSoundGiven built version (with_statement given (word ∷ words))
IsSoundGiven-key built version given None word words found e h = absurd (cc)
IsSoundGiven-key built version given (Some key) word words found e h =
    IsSoundGiven-push built version given key word words found (Passes-key built version given key words e) h

-- ---- lines

-- by the version that the statements give, if they give one, what they give is sound
abbrev AreSound : Format → List (List (List ℕ)) → Type 0
AreSound format statements =
    (version : ℕ) → version_given format.reads statements ≡ Some version → IsSoundGiven format.built version (given_after_version statements)

AreSound-line : (format : Format) (skipped : Bool) (statements : List (List (List ℕ))) (words : List (List ℕ)) → is_skipped words ≡ skipped
    → cond skipped None (fault_after format (version_given format.reads statements) (given_after_version statements) words) ≡ None
    → AreSound format statements → AreSound format (statements ++ cond (not skipped) (words ∷ []) [])
AreSound-line format true statements words skipped e h = subst (AreSound format) (sym (append-nil statements)) h
AreSound-line format false statements [] skipped e h = absurd (cc)
AreSound-line format false [] (word ∷ words) skipped e h = λ version read. IsSoundGiven-none format.built version
AreSound-line format false (first ∷ before) (word ∷ words) skipped e h =
    λ version read.
    let sound : fault_of_statement format.built version (given_by before) (word ∷ words)
    ≡ None = subst (λ found. fault_after format found (given_by before) (word ∷ words) ≡ None) read e in
    subst (IsSoundGiven format.built version) (sym (given_by-push before (word ∷ words)))
    (IsSoundGiven-key format.built version (given_by before) (key_of version word) word words refl sound (h version read))

-- the statements of so many lines without a fault
AreSound-lines : (format : Format) (lines : List (List ℕ)) (n : ℕ) → n ≤ length lines → IsSoundBelow format lines n
    → AreSound format (statements_of (take n lines))
AreSound-lines format lines zero most sound = λ version read. IsSoundGiven-none format.built version
AreSound-lines format lines (suc n) most sound =
    let before = AreSound-lines format lines n (omega arith) (λ i l. sound i (omega arith)) in
    let line = get_or lines n [] in
    let within : n < length lines = omega arith in
    let more : take (suc n) lines ≡ take n lines ++ line ∷ [] = take-suc lines n [] within in
    let after = AreSound-line format (is_skipped (words_of line)) (statements_of (take n lines)) (words_of line) refl (sound n (omega arith)) before in
    subst (AreSound format) (sym (ap statements_of more ∙ statements_of-push (take n lines) line)) after

-- the statements of a text without a fault
pub IsSoundGiven-text : (format : Format) (text : List ℕ) (version : ℕ) → IsSoundBelow format (lines_of text) (length (lines_of text))
    → version_given format.reads (statements_of (lines_of text)) ≡ Some version
    → IsSoundGiven format.built version (given_after_version (statements_of (lines_of text)))
IsSoundGiven-text format text version sound read =
    let lines = lines_of text in
    let all : AreSound format (statements_of lines) = subst (λ all. AreSound format (statements_of all)) (take_all (length lines) lines (omega arith))
    (AreSound-lines format lines (length lines) (omega arith) sound) in
    all version read
