-- The nodes below a number: where they stand, and which they are.
use Rattle.grown_runs.proofs.Words.{◌≡◌, ℕ, zero, suc, ◌+◌, ◌<◌, ◌≤◌, ◌^◌, Bool, length, Some, None, arith, refl, sym, ap, ◌∙◌, subst, inl, inr, ◌≢◌, nat_lt}
use Rattle.grown_runs.proofs.Words.{is_some, if◌then◌else◌, cases_lt, cases_Bool, le-ltb, lt-ltb, get_or_past, get_or-map-range_with_len}
use Rattle.grown_runs.proofs.Words.{length-map-range_with_len, same_Some, Point, point_at, StandsAt, IsPresent, point_of, IsSeen, IsPresent-stands}
use Rattle.grown_runs.proofs.Words.{StandsAt-present, Words, PointOf, ChildOf, Sizes, if_written, point_in, node_point, points_of_words, child_of_word}
use Rattle.grown_runs.proofs.Words.{AreLinkedBelow, points_below, tree_below}
use Rattle.grown_runs.proofs.Runs.GrownPoints.{point_at-words, point_at-past, point_of_word-stands, present-within}

-- ---- words

-- a word that holds a value holds this one
if_written-is : {A : Type 0} → (word : ℕ) (value held : A) → if_written word value ≡ Some held → value ≡ held
if_written-is word value held h =
    elim (cases_Bool (nat_lt word (2 ^ 63))) [
      | inl unset ↦ (let gone = sym h ∙ ap (λ b. if b then None else Some value) unset in cc)
      | inr set ↦ same_Some value held (sym (ap (λ b. if b then None else Some value) set) ∙ h)
    ]

pub child_of_word-some : (c : ℕ) → c ≢ 0 → child_of_word c ≡ Some c
child_of_word-some zero other = absurd (other refl)
child_of_word-some (suc c) other = refl

module _ (sizes : Sizes) (words : Words) where
  -- the point of a present node is in its word
  pub point_in-stands : (n : ℕ) (p : Point) → StandsAt (points_of_words sizes words) n p → point_in (words (PointOf n)) ≡ p
  point_in-stands n p h = if_written-is (words (PointOf n)) (point_in (words (PointOf n))) p (point_of_word-stands sizes words n p h)

-- ---- nodes below a number

module _ (sizes : Sizes) (words : Words) (m : ℕ) where
  length-below : length (points_below sizes words m) ≡ sizes.marks + 1
  length-below = length-map-range_with_len (λ i. if nat_lt i m then node_point words i else None) 0 (sizes.marks + 1)

  point_at-below : (n : ℕ) → n ≤ sizes.marks → point_at (points_below sizes words m) n ≡ (if nat_lt n m then node_point words n else None)
  point_at-below n within =
      get_or-map-range_with_len (λ i. if nat_lt i m then node_point words i else None) 0 (sizes.marks + 1) n n None (omega (arith, within)) (omega arith)

  below_past : (n : ℕ) → sizes.marks < n → point_at (points_below sizes words m) n ≡ None
  below_past n past = get_or_past (points_below sizes words m) n None (omega (arith, past, length-below))

  -- a lesser number stands as it does
  pub point_at-lesser : (n : ℕ) → n < m → point_at (points_below sizes words m) n ≡ point_at (points_of_words sizes words) n
  point_at-lesser n less =
      elim (cases_lt sizes.marks n) [
        | inl past ↦ below_past n past ∙ sym (point_at-past sizes words n past)
        | inr within ↦ (
            point_at-below n within ∙ ap (λ b. if b then node_point words n else None) (lt-ltb n m less) ∙ sym (point_at-words sizes words n within))
      ]

  -- a greater one is absent
  pub point_at-greater : (n : ℕ) → m ≤ n → point_at (points_below sizes words m) n ≡ None
  point_at-greater n past =
      elim (cases_lt sizes.marks n) [
        | inl beyond ↦ below_past n beyond
        | inr within ↦ point_at-below n within ∙ ap (λ b. if b then node_point words n else None) (le-ltb n m past)
      ]

  pub present-lesser : (n : ℕ) → IsPresent (points_below sizes words m) n → n < m
  present-lesser n h =
      elim (cases_lt n m) [
        | inl less ↦ less
        | inr past ↦ (let gone = sym h ∙ ap is_some (point_at-greater n past) in cc)
      ]

  pub stands-lesser : (n : ℕ) (p : Point) → StandsAt (points_below sizes words m) n p → StandsAt (points_of_words sizes words) n p
  stands-lesser n p h =
      sym (point_at-lesser n (present-lesser n (IsPresent-stands (points_below sizes words m) n p h))) ∙ h

  -- ---- their tree

  pub here_stands : (n : ℕ) → IsPresent (points_below sizes words m) n → StandsAt (points_below sizes words m) n (point_in (words (PointOf n)))
  here_stands n h =
      let p : Point = point_of (points_below sizes words m) n in
      let stands = StandsAt-present (points_below sizes words m) n h in
      stands ∙ ap Some (sym (point_in-stands sizes words n p (stands-lesser n p stands)))

  pub here_within : (n : ℕ) → IsPresent (points_below sizes words m) n → n ≤ sizes.marks
  here_within n h =
      let p : Point = point_in (words (PointOf n)) in
      present-within sizes words n (IsPresent-stands (points_of_words sizes words) n p (stands-lesser n p (here_stands n h)))

  -- the root is among them, and every child
  pub here_seen : AreLinkedBelow sizes words m → (n : ℕ) → IsSeen (tree_below sizes words m) n → IsPresent (points_below sizes words m) n
  here_seen linked n (inl start) = subst (IsPresent (points_below sizes words m)) (sym start) linked.start
  here_seen linked n (inr (a, side, link)) = linked.ways.present a n side link

  -- the word of a child is its number
  pub child_within : AreLinkedBelow sizes words m → (n : ℕ) (side : Bool) → words (ChildOf n side) ≢ 0 → words (ChildOf n side) ≤ sizes.marks
  child_within linked n side other =
      here_within (words (ChildOf n side)) (linked.ways.present n (words (ChildOf n side)) side (child_of_word-some (words (ChildOf n side)) other))
