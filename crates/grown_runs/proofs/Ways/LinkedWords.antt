-- The words of a run in which a node is linked: one child word changes, and what the others say stays.
use Rattle.grown_runs.proofs.Words.{◌≡◌, ℕ, ◌+◌, ◌<◌, Bool, Some, arith, sym, ap, ◌∙◌, subst, inl, inr, ◌≢◌, is_some, cases_lt, Point, IsFree, point_at}
use Rattle.grown_runs.proofs.Words.{StandsAt, point_of, goes_right, AddsPoint, EndsBelow, LinksAt, IsPresent-stands, StandsAt-present, AddsPoint-stands}
use Rattle.grown_runs.proofs.Words.{FollowWays-links, new_or_old_child, Words, WritesWord, IsChildWord, PointOf, ChildOf, Sizes, point_in, points_of_words}
use Rattle.grown_runs.proofs.Words.{child_of_word, children_of_words, points_below, AreLinkedBelow, LinksRise, MayLink, ChangesChildren}
use Rattle.grown_runs.proofs.Ways.NodesBelow.{child_of_word-some, point_in-stands, point_at-lesser, point_at-greater, present-lesser, stands-lesser}
use Rattle.grown_runs.proofs.Table.KeptWords.{KeepsNodes, KeepsNodes-children, point_at-kept}

module _
    (sizes : Sizes) (before : Words) (m : ℕ) (may : MayLink sizes before m) (q : Point) (own : q ≡ point_in (before (PointOf m))) where
  stands_own : StandsAt (points_of_words sizes before) m q
  stands_own =
      let p : Point = point_of (points_of_words sizes before) m in
      let stands = StandsAt-present (points_of_words sizes before) m may.present in
      stands ∙ ap Some (sym (point_in-stands sizes before m p stands) ∙ sym own)

  -- no node of a lesser number stands where it does
  pub IsFree-own : IsFree (points_below sizes before m) q
  IsFree-own n h =
      let same = may.distinct n m q (stands-lesser sizes before m n q h) stands_own in
      let less = present-lesser sizes before m n (IsPresent-stands (points_below sizes before m) n q h) in
      omega (arith, same, less)

  -- its way ended at node a, at p, and there it becomes a child
  module _ (after : Words) (depth a : ℕ) (p : Point) (ends : EndsBelow (children_of_words before) (points_below sizes before m) q depth a p)
      (writes : WritesWord (ChildOf a (goes_right depth p q)) m before after) where
    abbrev side : Bool
    side = goes_right depth p q

    -- that node has a lesser number
    pub above_lesser : a < m
    above_lesser = present-lesser sizes before m a (IsPresent-stands (points_below sizes before m) a p ends.stands)

    -- no other word changes than one of a child
    pub ChangesChildren-written : ChangesChildren before after
    ChangesChildren-written name other = writes.others name (λ e. other (subst IsChildWord (sym e) tt))

    keeps : KeepsNodes before after
    keeps = KeepsNodes-children before after ChangesChildren-written

    not_start : m ≢ 0
    not_start e = omega (arith, e, may.later)

    same_points : (n : ℕ) → point_at (points_of_words sizes after) n ≡ point_at (points_of_words sizes before) n
    same_points = point_at-kept before after keeps sizes

    kept : (n : ℕ) → n ≢ m → point_at (points_below sizes after (m + 1)) n ≡ point_at (points_below sizes before m) n
    kept n apart =
        elim (cases_lt n m) [
          | inl less ↦ point_at-lesser sizes after (m + 1) n (omega (arith, less)) ∙ same_points n ∙ sym (point_at-lesser sizes before m n less)
          | inr past ↦ point_at-greater sizes after (m + 1) n (omega (arith, past, apart)) ∙ sym (point_at-greater sizes before m n past)
        ]

    other_child :
        (n : ℕ) (right : Bool) → ¬ ((n ≡ a) × (right ≡ side)) → children_of_words after n right ≡ children_of_words before n right
    other_child n right apart = ap child_of_word (writes.others (ChildOf n right) (λ e. apart (same_child n right e)))
      where
        same_child : (n : ℕ) (right : Bool) → ChildOf n right ≡ ChildOf a (goes_right depth p q)
            → (n ≡ a) × (right ≡ side)
        same_child n right e = (cc, cc)

    new_child : children_of_words after a (goes_right depth p q) ≡ Some m
    new_child = ap child_of_word writes.here ∙ child_of_word-some m not_start

    links : LinksAt (children_of_words before) (children_of_words after) a (goes_right depth p q) m
    links = record { was_empty = ends.empty; linked = new_child; elsewhere = other_child }

    adds : AddsPoint (points_below sizes before m) (points_below sizes after (m + 1)) m q
    adds =
        AddsPoint-stands (points_below sizes before m) (points_below sizes after (m + 1)) m q
        (λ h. let less = present-lesser sizes before m m h in omega (arith, less))
        (point_at-lesser sizes after (m + 1) m (omega arith) ∙ same_points m ∙ stands_own) kept

    -- The nodes up to this one are linked.
    pub AreLinkedBelow-more : AreLinkedBelow sizes after (m + 1)
    AreLinkedBelow-more = record {
      ways =
          FollowWays-links (children_of_words before) (children_of_words after) (points_below sizes before m)
          (points_below sizes after (m + 1)) q depth a m p may.linked.ways ends adds links;
      start = ap is_some (kept 0 (λ e. not_start (sym e))) ∙ may.linked.start;
    }

    -- It stands below a node of a lesser number, so if all others did, all do.
    pub LinksRise-more : LinksRise (children_of_words before) → LinksRise (children_of_words after)
    LinksRise-more rise n c right h =
        elim
        (new_or_old_child (children_of_words before) (children_of_words after) a (goes_right depth p q) m links n c right
        h) [
          | inl new ↦ omega (arith, new.0, new.2, above_lesser)
          | inr old ↦ rise n c right old
        ]
