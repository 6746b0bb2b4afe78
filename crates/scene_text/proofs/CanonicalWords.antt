-- The statements of canonical texts: their words are words, their numbers are numbers of the values written.
use Rattle.scene_text.proofs.Words.{◌≡◌, ℕ, Bool, true, false, cond, not, ◌&&◌, eqb, leb, ℤ, pos, negsuc, int_le, None, List, [], ◌∷◌, length, map, get_or}
use Rattle.scene_text.proofs.Words.{refl, ap, ◌∙◌, arith, signed_decimal, list_all, length-map, nat_tests, and_parts, Key, LEAST_OBSTACLE_COORDINATE}
use Rattle.scene_text.proofs.Words.{LEAST_OBSTACLE_COORDINATE_OF_VERSION_2, MOST_CLEARANCE, MOST_OBSTACLE_COORDINATE, MOST_OBSTACLE_COORDINATE_OF_VERSION_2}
use Rattle.scene_text.proofs.Words.{MOST_SIDE, MOST_SIDE_OF_VERSION_2, MOST_STEP, MOST_STEP_OF_VERSION_2, is_number, value_of, name_of, is_key, least_of}
use Rattle.scene_text.proofs.Words.{most_of, fits_words, is_repeated, is_too_many, is_in_range, is_ordered, are_between, has_corners, first_failing}
use Rattle.scene_text.proofs.Words.{fault_at_key, fault_of_statement, Given, MayStand, most_lines, statement, key_of-name}
use Rattle.plan_model.specs.declared.text_terms.Key.TheVariants as keys
use Rattle.plan_model.specs.declared.text_terms.Kind.TheVariants as kinds
use Rattle.scene_text.proofs.StatementTexts.{is_word, is_clean}
use Rattle.scene_text.proofs.DecimalWords.{IsShort, is_word-signed, is_number-signed, value_of-signed}

-- ---- numbers in their range are short

short-between : (low high z : ℤ) → IsShort low → IsShort high → (int_le low z && int_le z high) ≡ true → IsShort z
short-between low (pos most) (pos n) l h within =
    let below = (and_parts (int_le low (pos n)) (leb n most) within).1 in
    grind (arith, nat_tests)
short-between low (negsuc most) (pos n) l h within =
    let below = (and_parts (int_le low (pos n)) false within).1 in
    absurd (cc)
short-between (negsuc least) high (negsuc n) l h within =
    let above = (and_parts (leb n least) (int_le (negsuc n) high) within).0 in
    grind (arith, nat_tests)
short-between (pos least) high (negsuc n) l h within = absurd (cc)

-- the least and the greatest number after a key, by whether the version is 1
abbrev least_by : Bool → Key → ℤ
least_by first keys.Obstacle = cond first LEAST_OBSTACLE_COORDINATE LEAST_OBSTACLE_COORDINATE_OF_VERSION_2
least_by first key = least_of 1 key

abbrev most_by : Bool → Key → ℤ
most_by first keys.Obstacle = cond first MOST_OBSTACLE_COORDINATE MOST_OBSTACLE_COORDINATE_OF_VERSION_2
most_by first keys.Clearance = pos (cond first 0 MOST_CLEARANCE)
most_by first keys.Step = pos (cond first MOST_STEP MOST_STEP_OF_VERSION_2)
most_by first keys.Informed = pos (cond first 0 1)
most_by first keys.Room = pos (cond first MOST_SIDE MOST_SIDE_OF_VERSION_2)
most_by first keys.Start = pos (cond first MOST_SIDE MOST_SIDE_OF_VERSION_2)
most_by first keys.Goal = pos (cond first MOST_SIDE MOST_SIDE_OF_VERSION_2)
most_by first keys.Mark = pos (cond first MOST_SIDE MOST_SIDE_OF_VERSION_2)
most_by first key = most_of 1 key

least-short : (first : Bool) (key : Key) → IsShort (least_by first key)
least-short true keys.Obstacle = omega arith
least-short true key = omega arith
least-short false keys.Obstacle = omega arith
least-short false key = omega arith

most-short : (first : Bool) (key : Key) → IsShort (most_by first key)
most-short true keys.Obstacle = omega arith
most-short true key = omega arith
most-short false keys.Obstacle = omega arith
most-short false key = omega arith

short-in_range : (version : ℕ) (key : Key) (z : ℤ) → (int_le (least_of version key) z && int_le z (most_of version key)) ≡ true → IsShort z
short-in_range version keys.Room z h =
    short-between (least_of version keys.Room) (most_of version keys.Room) z (least-short (eqb version 1) keys.Room) (most-short (eqb version 1) keys.Room) h
short-in_range version key z h =
    short-between (least_of version key) (most_of version key) z (least-short (eqb version 1) key) (most-short (eqb version 1) key) h

abbrev pub AreShort : List ℤ → Type 0
AreShort [] = Unit {0}
AreShort (z ∷ zs) = IsShort z × AreShort zs

short-all : (version : ℕ) (key : Key) (zs : List ℤ) → are_between (least_of version key) (most_of version key) zs ≡ true → AreShort zs
short-all version key [] h = tt
short-all version key (z ∷ zs) h =
    let low = least_of version key in
    let high = most_of version key in
    let parts = and_parts (int_le low z && int_le z high) (are_between low high zs) h in
    (short-in_range version key z parts.0, short-all version key zs parts.1)

pub short-ranged : (version : ℕ) (key : Key) (zs : List ℤ) → is_in_range version key zs ≡ true → AreShort zs
short-ranged version key zs h =
    short-all version key zs (and_parts (is_ordered key zs) (are_between (least_of version key) (most_of version key) zs) h).1

-- ---- numbers in decimal

words-decimal : (zs : List ℤ) → AreShort zs → list_all is_word (map signed_decimal zs) ≡ true
words-decimal [] h = refl
words-decimal (z ∷ zs) h = rw (is_word-signed z h.0, words-decimal zs h.1) refl

numbers-decimal : (zs : List ℤ) → AreShort zs → list_all is_number (map signed_decimal zs) ≡ true
numbers-decimal [] h = refl
numbers-decimal (z ∷ zs) h = rw (is_number-signed z h.0, numbers-decimal zs h.1) refl

pub values-decimal : (zs : List ℤ) → AreShort zs → map value_of (map signed_decimal zs) ≡ zs
values-decimal [] h = refl
values-decimal (z ∷ zs) h = rw (value_of-signed z h.0, values-decimal zs h.1) refl

-- ---- statements

is_word-name : (key : Key) → is_word (name_of key) ≡ true
is_word-name keys.Room = refl
is_word-name key = refl

is_open-name : (key : Key) → not (eqb (get_or (name_of key) 0 0) 35) ≡ true
is_open-name keys.Room = refl
is_open-name key = refl

pub is_clean-statement : (version : ℕ) (key : Key) (zs : List ℤ) → MayStand version key zs → is_clean (statement key zs) ≡ true
is_clean-statement version key zs h =
    rw (is_word-name key, words-decimal zs (short-ranged version key zs h.ranged), is_open-name key) refl

checked-none : (built repeated fits many numbers ranged corners : Bool) → built ≡ true → repeated ≡ false → fits ≡ true → many ≡ false → numbers ≡ true
    → ranged ≡ true → corners ≡ true → first_failing ((built, kinds.Unbuilt) ∷ (not repeated, kinds.Repeat) ∷ (fits, kinds.Words) ∷ (not many, kinds.Many)
    ∷ (numbers, kinds.Number) ∷ (ranged, kinds.Range) ∷ (corners, kinds.Corners) ∷ []) ≡ None
checked-none built repeated fits many numbers ranged corners z a b c d e f = rw (z, a, b, c, d, e, f) refl

-- a statement whose numbers may stand there has no fault, if there is room for it
pub fault-none : (built : Key → Bool) (version : ℕ) (key : Key) (zs : List ℤ) (given : Given) → is_key version key ≡ true → built key ≡ true
    → MayStand version key zs → is_repeated version given key ≡ false → leb (most_lines version key) (length (given key)) ≡ false
    → fault_of_statement built version given (statement key zs) ≡ None
fault-none built version key zs given known supported h fresh room =
    let words = map signed_decimal zs in
    let count : length words ≡ length zs = length-map zs signed_decimal in
    let short = short-ranged version key zs h.ranged in
    let values : map value_of words ≡ zs = values-decimal zs short in
    let few : is_too_many version given key (length zs) ≡ false = rw (h.few, room) refl in
    ap (λ found. fault_at_key built version given found words) (key_of-name version key known)
    ∙ checked-none (built key) (is_repeated version given key) (fits_words key (length words)) (is_too_many version given key (length words))
    (list_all is_number words) (is_in_range version key (map value_of words)) (has_corners key (map value_of words)) supported fresh
    (ap (fits_words key) count ∙ h.count) (ap (λ n. is_too_many version given key n) count ∙ few) (numbers-decimal zs short)
    (ap (is_in_range version key) values ∙ h.ranged) (ap (has_corners key) values ∙ h.corners)
