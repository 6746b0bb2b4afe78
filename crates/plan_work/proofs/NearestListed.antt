-- The nearest node of a near list is the nearest of all.
use Rattle.plan_work.proofs.Words.{◌≡◌, ℕ, ◌+◌, ◌*◌, ◌<◌, ◌≤◌, ◌++◌, Option, Some, List, [], ◌∷◌, length, map, take, arith, inl, inr, sym, ap, ◌∙◌, subst, All}
use Rattle.plan_work.proofs.Words.{Contains, cases_lt, min, slice_get, slice_index_or, slice_get_within, get_or_from_slice_get, take_more, map-append}
use Rattle.plan_work.proofs.Words.{All-contains, All-map, Contains-get_or, Contains-image, Contains-source, IsNextWord, IsNextWord-more, parent_in, tree_word}
use Rattle.plan_work.proofs.Words.{parent_in-tree_word, IsBounded, IsBounded-seen, squared_distance-low, seen-within, run_sizes, sees, IsMeasured, FitsWord}
use Rattle.plan_work.proofs.Words.{SweepsWithin, SweepsWithin-less, mark_at, squared_distance, IsNotAbove, distance_to, IsPresent, point_of, steered, Point}
use Rattle.plan_work.proofs.Words.{IsNotAbove-lesser, StandsAt-present, point_of-stands, steered-near, numbers_of, GoesOn, Found, sight_in, tree_seen, View}
use Rattle.plan_work.proofs.Words.{IsLawfulView, stands_later, IsInReach, HasSteered, radius_in, HasFilledNear, IsNearestOf}

-- ---- the least word

-- the word of a found node: of two the lesser has the lesser pair of distance and number
abbrev pub word_of : Found → ℕ
word_of f = tree_word f.node f.distance

-- one more
pub IsNextWord-found : (found : List Found) (i : ℕ) (f : Found) (last least then : ℕ) → slice_get found i ≡ Some f
    → IsNextWord (map word_of (take i found)) 0 last least → then ≡ min least (word_of f) → IsNextWord (map word_of (take (i + 1) found)) 0 last then
IsNextWord-found found i f last least then read h is =
    let more = ap (map word_of)
    (take_more found i f (slice_get_within found i f read) ∙ ap (λ x. take i found ++ x ∷ []) (get_or_from_slice_get found i f f read))
    ∙ map-append word_of (take i found) (f ∷ []) in
    IsNextWord-more (map word_of (take i found)) (map word_of (take (i + 1) found)) 0 last least (word_of f) then more h
    (elim (cases_lt (word_of f) least) [
      | inl less ↦ inl (omega arith, less, omega (arith, is, less))
      | inr most ↦ inr (λ some. most, omega (arith, is, most))
    ])

-- The node of the least word is the nearest of those found.
module _ (view : View) (p : Point) (found : List Found) (least : ℕ) (measured : All (IsMeasured view p) found) (fits : All FitsWord found)
    (some : 0 < length found) (h : IsNextWord (map word_of found) 0 18446744073709551615 least) where
  most : (f : Found) → Contains found f → least ≤ word_of f
  most f on =
      All-contains (λ w. 0 < w → least ≤ w) (map word_of found) (word_of f) h.least (Contains-image word_of found f on) (omega arith)

  -- (it is no greater than that of the first)
  here : Contains (map word_of found) least
  here = elim h.one_of [
    | inl last ↦ (
        let none : Found = record { node = 0; edge = 0; distance = 0 } in
        let fit : FitsWord (slice_index_or found 0 none) = fits 0 none some in
        absurd (omega (arith, last, most (slice_index_or found 0 none) (Contains-get_or found 0 none some), fit.node, fit.distance)))
    | inr on ↦ on
  ]

  pub IsNearestOf-least : IsNearestOf view p (numbers_of found) (numbers_of found) (parent_in least) (point_of (tree_seen view).points (parent_in least))
  IsNearestOf-least =
      let points = (tree_seen view).points in
      let key = distance_to p points in
      let own = Contains-source word_of found least here in
      let f : Found = own.0 in
      let fit : FitsWord f = All-contains FitsWord found f fits own.1 in
      let is : f.node ≡ parent_in least = sym (parent_in-tree_word f.node f.distance fit.node) ∙ ap parent_in own.2 in
      let at : IsMeasured view p f = All-contains (IsMeasured view p) found f measured own.1 in
      subst (λ m. IsNearestOf view p (numbers_of found) (numbers_of found) m (point_of points m)) is (record {
        listed = Contains-image (λ (g : Found). g.node) found f own.1;
        stands = StandsAt-present points f.node at.present;
        not_above = All-map (IsNotAbove key f.node) (λ (g : Found). g.node) found (λ k d below.
            let g : Found = slice_index_or found k d in
            let other : IsMeasured view p g = measured k d below in
            let small : FitsWord g = fits k d below in
            let le = most g (Contains-get_or found k d below) in
            let is_least = own.2 in
            record {
              least = omega (arith, le, is_least, fit.node, small.node, at.distance, other.distance);
              first = λ e. omega (arith, le, is_least, fit.node, small.node, at.distance, other.distance, e);
            });
      })

-- a node that is seen at its distance fits a word
pub FitsWord-measured : (view : View) (p : Point) (f : Found) → IsLawfulView view → IsBounded p → IsMeasured view p f → FitsWord f
FitsWord-measured view p f lawful bounded h =
    let at = point_of (tree_seen view).points f.node in
    let low = squared_distance-low at p (IsBounded-seen view f.node at (StandsAt-present (tree_seen view).points f.node h.present)) bounded in
    record {
      node = omega (arith, seen-within (run_sizes view.run) (sees view) f.node h.present, lawful.run.marks);
      distance = omega (arith, h.distance, low);
    }

-- The nearest node on a near list of a mark steers to the mark itself.
module _ (before mid : View) (one : GoesOn before mid) (k m class : ℕ) (from p : Point) (found : List Found) (is : p ≡ mark_at mid.run.marks k)
    (filled : HasFilledNear before mid p class found) (best : IsNearestOf mid p (numbers_of found) (numbers_of found) m from) where
  abbrev near : List ℕ
  near = numbers_of found

  abbrev points : List (Option Point)
  points = (tree_seen mid).points

  abbrev r : ℕ
  r = radius_in mid class

  short : squared_distance from p ≤ mid.run.step * mid.run.step
  short =
      omega (
        arith,
        ap (λ a. squared_distance a p) (point_of-stands points m from best.stands),
        (All-contains (IsInReach mid p) near m filled.in_reach best.listed).short,
      )

  above : (n : ℕ) → IsPresent (tree_seen before).points n → IsNotAbove (distance_to p points) m n
  above n there =
      let old = (tree_seen before).points in
      let q : Point = point_of old n in
      let stood = StandsAt-present old n there in
      let at : point_of points n ≡ q = point_of-stands points n q (stands_later before mid one n q stood) in
      elim (cases_lt (r * r) (squared_distance q p)) [
        | inl far ↦
            IsNotAbove-lesser (distance_to p points) m n
            (omega (arith, far, filled.close m best.listed, ap (λ a. squared_distance a p) at))
        | inr close ↦ All-contains (IsNotAbove (distance_to p points) m) near n best.not_above (filled.all n q stood close)
      ]

  pub HasSteered-listed : HasSteered before mid k m from p
  HasSteered-listed = record {
    stands = best.stands;
    point_is = sym (steered-near from p mid.run.step short) ∙ ap (λ q. steered from q mid.run.step) is;
    not_above = λ n there. subst (λ q. IsNotAbove (distance_to q points) m n) is (above n there);
    swept =
        subst (λ q. SweepsWithin (sight_in before) (sight_in mid) q (distance_to q points m)) is
        (SweepsWithin-less (sight_in before) (sight_in mid) p (r * r) (distance_to p points m) (filled.close m best.listed) filled.swept);
  }
