-- The nodes that the words of a run hold: each has a number up to that of the last mark, and stands where its point word says, within bounds.
use Rattle.grown_runs.proofs.Words.{◌≡◌, ℕ, zero, suc, ◌+◌, ◌<◌, ◌≤◌, ◌^◌, Bool, true, false, Option, Some, None, List, length, refl, arith, sym, ap, ◌∙◌, inl}
use Rattle.grown_runs.proofs.Words.{inr, is_some, nat_lt, unwrap_or, if◌then◌else◌, cases_lt, cases_Bool, get_or_past, count_by-le-length}
use Rattle.grown_runs.proofs.Words.{get_or-map-range_with_len, length-map-range_with_len, Point, IsBounded, point_at, StandsAt, IsPresent, node_count}
use Rattle.grown_runs.proofs.Words.{IsPresent-stands, Words, PointOf, FirstOf, RecordOf, Sizes, record_of_word, point_in, point_of_word, record_at, has_placed}
use Rattle.grown_runs.proofs.Words.{has_node, node_point, points_of_words}
use Rattle.grown_runs.specs.Table.WordPlaces.{word_at}
use Rattle.grown_runs.proofs.Table.WordReads.{word_at-none}

-- an absent point is none
pub none_some : (o : Option Point) → is_some o ≡ false → o ≡ None
none_some None h = refl
none_some (Some p) h = cc

-- the point in a word has coordinates of 20 bits
pub IsBounded-word : (word : ℕ) (p : Point) → point_of_word word ≡ Some p → IsBounded p
IsBounded-word word p h = by_test (nat_lt word (2 ^ 63)) h
  where
    by_test : (b : Bool) → (if b then None else Some (point_in word)) ≡ Some p → IsBounded p
    by_test true e = cc
    by_test false e =
        let right = ap (λ o. (unwrap_or {T = Point} o (record { x = 0; y = 0 })).x) e in
        let top = ap (λ o. (unwrap_or {T = Point} o (record { x = 0; y = 0 })).y) e in
        record { right = omega (arith, right); top = omega (arith, top) }

module _ (words : Words) where
  -- an absent node has no point
  pub node_point-absent : (n : ℕ) → has_node words n ≡ false → node_point words n ≡ None
  node_point-absent n none = ap (λ b. if b then point_of_word (words (PointOf n)) else None) none

  -- a present one has the point in its point word
  pub node_point-here : (n : ℕ) → has_node words n ≡ true → node_point words n ≡ point_of_word (words (PointOf n))
  node_point-here n here = ap (λ b. if b then point_of_word (words (PointOf n)) else None) here

  -- a mark whose record is not written has none
  pub record_at-unwritten : (k : ℕ) → words (RecordOf k) ≡ 0 → record_at words k ≡ None
  record_at-unwritten k none = ap (λ word. record_of_word word (words (FirstOf (suc k)))) none

module _ (sizes : Sizes) (words : Words) where
  -- ---- nodes

  length-points : length (points_of_words sizes words) ≡ sizes.marks + 1
  length-points = length-map-range_with_len (node_point words) 0 (sizes.marks + 1)

  -- where a node stands
  pub point_at-words : (n : ℕ) → n ≤ sizes.marks → point_at (points_of_words sizes words) n ≡ node_point words n
  point_at-words n within = get_or-map-range_with_len (node_point words) 0 (sizes.marks + 1) n n None (omega (arith, within)) (omega arith)

  -- a number past that of the last mark's is no node
  pub point_at-past : (n : ℕ) → sizes.marks < n → point_at (points_of_words sizes words) n ≡ None
  point_at-past n past = get_or_past (points_of_words sizes words) n None (omega (arith, past, length-points))

  -- nor is one that is absent
  pub point_at-absent : (n : ℕ) → has_node words n ≡ false → point_at (points_of_words sizes words) n ≡ None
  point_at-absent n none =
      elim (cases_lt sizes.marks n) [
        | inl past ↦ point_at-past n past
        | inr within ↦ point_at-words n within ∙ node_point-absent words n none
      ]

  -- a node has a number up to that of the last mark's
  pub present-within : (n : ℕ) → IsPresent (points_of_words sizes words) n → n ≤ sizes.marks
  present-within n h =
      elim (cases_lt sizes.marks n) [
        | inr within ↦ within
        | inl past ↦ (let gone = sym h ∙ ap is_some (point_at-past n past) in cc)
      ]

  -- and is present
  pub has_node-present : (n : ℕ) → IsPresent (points_of_words sizes words) n → has_node words n ≡ true
  has_node-present n h =
      elim (cases_Bool (has_node words n)) [
        | inl here ↦ here
        | inr none ↦ (let gone = sym h ∙ ap is_some (point_at-absent n none) in cc)
      ]

  -- so there are no more of them
  pub node_count-words : node_count (points_of_words sizes words) ≤ sizes.marks + 1
  node_count-words = omega (arith, count_by-le-length is_some (points_of_words sizes words), length-points)

  -- ---- where they stand

  -- a node stands where its point word says
  pub point_of_word-stands : (n : ℕ) (p : Point) → StandsAt (points_of_words sizes words) n p → point_of_word (words (PointOf n)) ≡ Some p
  point_of_word-stands n p h =
      let here = IsPresent-stands (points_of_words sizes words) n p h in
      sym (node_point-here words n (has_node-present n here)) ∙ sym (point_at-words n (present-within n here)) ∙ h

  -- within bounds
  pub IsBounded-stands : (n : ℕ) (p : Point) → StandsAt (points_of_words sizes words) n p → IsBounded p
  IsBounded-stands n p h = IsBounded-word (words (PointOf n)) p (point_of_word-stands n p h)

-- ---- in the list of a run's words

-- a number past the marks has no record
pub record_at-past : (sizes : Sizes) (items : List ℕ) (k : ℕ) → sizes.marks ≤ k → record_at (word_at sizes items) k ≡ None
record_at-past sizes items k past =
    record_at-unwritten (word_at sizes items) k (word_at-none sizes items (RecordOf k) (λ below. omega (arith, past, below)))

-- nor a node
pub has_node-within : (sizes : Sizes) (items : List ℕ) (n : ℕ) → has_node (word_at sizes items) n ≡ true → n ≤ sizes.marks
has_node-within sizes items zero here = omega arith
has_node-within sizes items (suc k) here =
    elim (cases_lt k sizes.marks) [
      | inl below ↦ omega (arith, below)
      | inr past ↦ (let gone = sym here ∙ ap has_placed (record_at-past sizes items k past) in cc)
    ]
