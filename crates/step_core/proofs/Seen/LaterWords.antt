-- The later of two words of a kind, and the table of the later words of two tables.
use Rattle.step_core.proofs.Words.{◌≡◌, ◌+◌, ◌-◌, ◌*◌, ◌%◌, ◌^◌, ◌<◌, ◌≤◌, ◌∙◌, ◌≢◌, ◌⊎◌, ◌==◌, ◌&&◌, ℕ, Bool, true, false, List, length, arith, refl, sym, ap}
use Rattle.step_core.proofs.Words.{inl, inr, nat_lt, nat_le, cond, slice_index, cases_Bool, cases_lt, eqb-true, eqb-false, lt-ltb, le-ltb, le-leb, lt-leb}
use Rattle.step_core.proofs.Words.{ltb-true, leb-true, ne_eqb, get_or-map-range_with_len, length-map-range_with_len, mod-mul-add, merged, WordKind, kind_of}
use Rattle.step_core.proofs.Words.{kind_at, later_word, MayBecome, Rising, Once, Falling, Apart, Word, Count, Best, Counter, PointOf, ChildOf, TreeOf, FirstOf}
use Rattle.step_core.proofs.Words.{RecordOf, Sizes, HasWord, has_word, node_place, place_of, word_count, cost_in, HasWord-true, place_of-within, word_at-false}
use Rattle.step_core.proofs.Words.{word_at-has}
use Rattle.grown_runs.specs.Table.WordPlaces.{word_at}

-- ---- kinds by place

node_kind : (sizes : Sizes) (n r : ℕ) → n ≤ sizes.marks → r < 5 → kind_at sizes (node_place sizes n + r) ≡ cond (r == 3) Falling Once
node_kind sizes n r low small =
    let place : ℕ = node_place sizes n + r in
    let other : (place == 1) ≡ false = ne_eqb place 1 (λ e. omega (arith, e)) in
    let past : nat_le place (sizes.strips + 1) ≡ false = lt-leb place (sizes.strips + 1) (omega arith) in
    let within : nat_lt place (node_place sizes (sizes.marks + 1)) ≡ true = lt-ltb place (node_place sizes (sizes.marks + 1)) (omega (arith, low, small)) in
    let offset : place - node_place sizes 0 ≡ n * 5 + r = omega arith in
    let rest : (place - node_place sizes 0) % 5 ≡ r = ap (λ m. m % 5) offset ∙ mod-mul-add n 5 r small in
    ap (λ b. cond b Apart (cond (nat_le place (sizes.strips + 1)) Rising (cond (nat_lt place (node_place sizes (sizes.marks + 1))
    && (place - node_place sizes 0) % 5 == 3) Falling Once))) other
    ∙ ap (λ b. cond b Rising (cond (nat_lt place (node_place sizes (sizes.marks + 1)) && (place - node_place sizes 0) % 5 == 3) Falling Once)) past
    ∙ ap (λ b. cond (b && (place - node_place sizes 0) % 5 == 3) Falling Once) within ∙ ap (λ m. cond (m == 3) Falling Once) rest

number_kind : (sizes : Sizes) (place : ℕ) → place ≢ 1 → place ≤ sizes.strips + 1 → kind_at sizes place ≡ Rising
number_kind sizes place apart low =
    ap (λ b. cond b Apart (cond (nat_le place (sizes.strips + 1)) Rising (cond (nat_lt place (node_place sizes (sizes.marks + 1))
    && (place - node_place sizes 0) % 5 == 3) Falling Once))) (ne_eqb place 1 apart)
    ∙ ap (λ b. cond b Rising (cond (nat_lt place (node_place sizes (sizes.marks + 1)) && (place - node_place sizes 0) % 5 == 3) Falling Once))
    (le-leb place (sizes.strips + 1) low)

-- the word at its place has its kind
pub kind_at-place : (sizes : Sizes) (name : Word) → HasWord sizes name → kind_at sizes (place_of sizes name) ≡ kind_of name
kind_at-place sizes Count here = number_kind sizes 0 (λ e. cc) (omega arith)
kind_at-place sizes Best here = refl
kind_at-place sizes (Counter g) here = number_kind sizes (g + 2) (λ e. omega (arith, e)) (omega (arith, here))
kind_at-place sizes (PointOf n) here =
    let same : node_place sizes n ≡ node_place sizes n + 0 = omega arith in ap (kind_at sizes) same ∙ node_kind sizes n 0 here (omega arith)
kind_at-place sizes (ChildOf n false) here = node_kind sizes n 1 here (omega arith)
kind_at-place sizes (ChildOf n true) here = node_kind sizes n 2 here (omega arith)
kind_at-place sizes (TreeOf n) here = node_kind sizes n 3 here (omega arith)
kind_at-place sizes (FirstOf n) here = node_kind sizes n 4 here (omega arith)
kind_at-place sizes (RecordOf k) here =
    let place : ℕ = place_of sizes (RecordOf k) in
    ap (λ b. cond b Apart (cond (nat_le place (sizes.strips + 1)) Rising (cond (nat_lt place (node_place sizes (sizes.marks + 1))
    && (place - node_place sizes 0) % 5 == 3) Falling Once))) (ne_eqb place 1 (λ e. omega (arith, e)))
    ∙ ap (λ b. cond b Rising (cond (nat_lt place (node_place sizes (sizes.marks + 1)) && (place - node_place sizes 0) % 5 == 3) Falling Once))
    (lt-leb place (sizes.strips + 1) (omega arith))
    ∙ ap (λ b. cond (b && (place - node_place sizes 0) % 5 == 3) Falling Once) (le-ltb place (node_place sizes (sizes.marks + 1)) (omega arith))

-- ---- the later of two words

-- the later of two words is one of them
pub later_word-either : (kind : WordKind) (one other : ℕ) → (later_word kind one other ≡ one) ⊎ (later_word kind one other ≡ other)
later_word-either Rising one other =
    elim (cases_lt one other) [
      | inl less ↦ inr (omega (arith, less))
      | inr enough ↦ inl (omega (arith, enough))
    ]
later_word-either Apart one other = inl refl
later_word-either Once one other = by_test (one == 0)
  where
    by_test : (b : Bool) → (cond b other one ≡ one) ⊎ (cond b other one ≡ other)
    by_test true = inr refl
    by_test false = inl refl
later_word-either Falling one other = by_test (one == 0) (nat_le (2 ^ 63) other && nat_lt (cost_in other) (cost_in one))
  where
    by_test : (b lower : Bool) → (cond b other (cond lower other one) ≡ one) ⊎ (cond b other (cond lower other one) ≡ other)
    by_test true lower = inr refl
    by_test false true = inr refl
    by_test false false = inl refl

later-none : (kind : WordKind) → later_word kind 0 0 ≡ 0
later-none Rising = refl
later-none kind = refl

-- it may become what both may
pub MayBecome-later : (kind : WordKind) (one other now : ℕ) → MayBecome kind one now → MayBecome kind other now → MayBecome kind (later_word kind one other) now
MayBecome-later Rising one other now a b = omega (arith, a, b)
MayBecome-later Once one other now a b = by_test (one == 0)
  where
    by_test : (t : Bool) → MayBecome Once (cond t other one) now
    by_test true = b
    by_test false = a
MayBecome-later Apart one other now a b = tt
MayBecome-later Falling one other now a b = by_test (one == 0) (nat_le (2 ^ 63) other && nat_lt (cost_in other) (cost_in one))
  where
    by_test : (t u : Bool) → MayBecome Falling (cond t other (cond u other one)) now
    by_test true u = b
    by_test false true = b
    by_test false false = a

-- the first may become it
pub MayBecome-to_later : (kind : WordKind) (one other : ℕ) → MayBecome kind one (later_word kind one other)
MayBecome-to_later Rising one other = omega arith
MayBecome-to_later Apart one other = tt
MayBecome-to_later Once one other = by_test (one == 0) refl
  where
    by_test : (t : Bool) → (one == 0) ≡ t → MayBecome Once one (cond t other one)
    by_test true e = inl (eqb-true one 0 e)
    by_test false e = inr refl
MayBecome-to_later Falling one other = by_test (one == 0) refl (nat_le (2 ^ 63) other) refl (nat_lt (cost_in other) (cost_in one)) refl
  where
    by_test :
        (t : Bool) → (one == 0) ≡ t → (u : Bool) → nat_le (2 ^ 63) other ≡ u → (v : Bool) → nat_lt (cost_in other) (cost_in one) ≡ v
        → MayBecome Falling one (cond t other (cond (u && v) other one))
    by_test true e u f v g = inl (eqb-true one 0 e)
    by_test false e true f true g = inr (inr (leb-true (2 ^ 63) other f, ltb-true (cost_in other) (cost_in one) g))
    by_test false e true f false g = inr (inl refl)
    by_test false e false f v g = inr (inl refl)

-- what a pair may be: 0, or written
abbrev IsWholePair : ℕ → Type 0
IsWholePair word = (word ≡ 0) ⊎ (2 ^ 63 ≤ word)

pub IsWholePair-later : (one other : ℕ) → IsWholePair one → IsWholePair other → IsWholePair (later_word Falling one other)
IsWholePair-later one other a b = by_test (one == 0) (nat_le (2 ^ 63) other && nat_lt (cost_in other) (cost_in one))
  where
    by_test : (t u : Bool) → IsWholePair (cond t other (cond u other one))
    by_test true u = b
    by_test false true = b
    by_test false false = a

-- So may the other, if both may become one word, and two pairs of one cost are one.
pub MayBecome-other_to_later :
    (kind : WordKind) (one other now : ℕ) → MayBecome kind one now → MayBecome kind other now → (kind ≡ Falling → IsWholePair one)
    → (kind ≡ Falling → 2 ^ 63 ≤ one → 2 ^ 63 ≤ other → cost_in one ≡ cost_in other → one ≡ other) → (kind ≡ Falling → IsWholePair other)
    → MayBecome kind other (later_word kind one other)
MayBecome-other_to_later Rising one other now a b whole agree also = omega arith
MayBecome-other_to_later Apart one other now a b whole agree also = tt
MayBecome-other_to_later Once one other now a b whole agree also = by_test (one == 0) refl
  where
    by_test : (t : Bool) → (one == 0) ≡ t → MayBecome Once other (cond t other one)
    by_test true e = inr refl
    by_test false e =
        elim b [
          | inl none ↦ inl none
          | inr is ↦ elim a [
            | inl none ↦ absurd (eqb-false one 0 e none)
            | inr was ↦ inr (is ∙ sym was)
          ]
        ]
MayBecome-other_to_later Falling one other now a b whole agree also =
    by_test (one == 0) refl (nat_le (2 ^ 63) other) refl (nat_lt (cost_in other) (cost_in one)) refl
  where
    stays : one ≢ 0 → 2 ^ 63 ≤ other → cost_in one ≤ cost_in other → MayBecome Falling other one
    stays some written order =
        elim (whole refl) [
          | inl none ↦ absurd (some none)
          | inr own ↦ elim (cases_lt (cost_in one) (cost_in other)) [
            | inl less ↦ inr (inr (own, less))
            | inr enough ↦ inr (inl (sym (agree refl own written (omega (arith, order, enough)))))
          ]
        ]

    by_test :
        (t : Bool) → (one == 0) ≡ t → (u : Bool) → nat_le (2 ^ 63) other ≡ u → (v : Bool) → nat_lt (cost_in other) (cost_in one) ≡ v
        → MayBecome Falling other (cond t other (cond (u && v) other one))
    by_test true e u f v g = inr (inl refl)
    by_test false e true f true g = inr (inl refl)
    by_test false e true f false g = stays (eqb-false one 0 e) (leb-true (2 ^ 63) other f) (not_less g)
      where
        not_less : nat_lt (cost_in other) (cost_in one) ≡ false → cost_in one ≤ cost_in other
        not_less h = elim (cases_lt (cost_in other) (cost_in one)) [
          | inl less ↦ (let yes = sym (lt-ltb (cost_in other) (cost_in one) less) ∙ h in cc)
          | inr enough ↦ enough
        ]
    by_test false e false f v g =
        elim (also refl) [
          | inl none ↦ inl none
          | inr written ↦ (let yes = sym (le-leb (2 ^ 63) other written) ∙ f in cc)
        ]

-- ---- the later words of two tables

pub word_at-merged :
    (sizes : Sizes) (one other : List ℕ) (name : Word)
    → word_at sizes (merged sizes one other) name ≡ later_word (kind_of name) (word_at sizes one name) (word_at sizes other name)
word_at-merged sizes one other name =
    elim (cases_Bool (has_word sizes name)) [
      | inl has ↦ (
          let here = HasWord-true sizes name has in
          let place : ℕ = place_of sizes name in
          word_at-has sizes (merged sizes one other) name here
          ∙ get_or-map-range_with_len (λ p. later_word (kind_at sizes p) (slice_index one p) (slice_index other p)) 0 (word_count sizes) place place 0
          (place_of-within sizes name here) (omega arith)
          ∙ ap (λ kind. later_word kind (slice_index one place) (slice_index other place)) (kind_at-place sizes name here)
          ∙ ap (λ w. later_word (kind_of name) w (slice_index other place)) (sym (word_at-has sizes one name here))
          ∙ ap (later_word (kind_of name) (word_at sizes one name)) (sym (word_at-has sizes other name here)))
      | inr none ↦
          word_at-false sizes (merged sizes one other) name none ∙ sym (later-none (kind_of name))
          ∙ ap (λ w. later_word (kind_of name) w 0) (sym (word_at-false sizes one name none))
          ∙ ap (later_word (kind_of name) (word_at sizes one name)) (sym (word_at-false sizes other name none))
    ]

pub length-merged : (sizes : Sizes) (one other : List ℕ) → length (merged sizes one other) ≡ word_count sizes
length-merged sizes one other = length-map-range_with_len (λ p. later_word (kind_at sizes p) (slice_index one p) (slice_index other p)) 0 (word_count sizes)
