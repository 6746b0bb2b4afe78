-- All nodes of a run are linked, one after another: at first the start alone, at last the way of each node ends at it.
use Rattle.grown_runs.proofs.Words.{◌≡◌, ℕ, ◌+◌, ◌≤◌, Bool, true, false, None, arith, refl, sym, ap, ◌∙◌, inl, inr, is_some, cases_eq, cases_lt, Point}
use Rattle.grown_runs.proofs.Words.{point_at, StandsAt, FollowWays, IsPresent-stands, FollowWays-same, FollowWays-start, Sizes, Words, points_of_words}
use Rattle.grown_runs.proofs.Words.{children_of_words, points_below, AreLinkedBelow, AreUnlinked, ChangesChildren, LinksRise, MayLink}
use Rattle.grown_runs.proofs.Runs.GrownPoints.{none_some}
use Rattle.grown_runs.proofs.Ways.NodesBelow.{point_at-lesser, point_at-greater, present-lesser}
use Rattle.grown_runs.proofs.Table.KeptWords.{KeepsNodes-children, point_at-kept}

-- The nodes below number m are linked, each below one of a lesser number, and only child words changed so far.
pub record LinksSoFar (sizes : Sizes) (has : ℕ → Bool) (before words : Words) (m : ℕ) : Type 0 where
  pub linked : AreLinkedBelow sizes words m
  pub rise : LinksRise (children_of_words words)
  pub others : ChangesChildren before words

module _ (sizes : Sizes) (has : ℕ → Bool) (before : Words) (unlinked : AreUnlinked sizes before has) where
  -- the start needs no link
  pub LinksSoFar-start : LinksSoFar sizes has before before 1
  LinksSoFar-start = record {
    linked = record {
      ways = FollowWays-start (children_of_words before) (points_below sizes before 1) unlinked.no_child alone;
      start = ap is_some (point_at-lesser sizes before 1 0 (omega arith)) ∙ unlinked.start;
    };
    rise = λ n c side one. let gone = sym one ∙ unlinked.no_child n side in cc;
    others = λ name other. refl;
  }
    where
      alone : (n : ℕ) (q : Point) → StandsAt (points_below sizes before 1) n q → n ≡ 0
      alone n q h =
          let less = present-lesser sizes before 1 n (IsPresent-stands (points_below sizes before 1) n q h) in omega (arith, less)

  module _ (m : ℕ) (words : Words) (so_far : LinksSoFar sizes has before words m) where
    same_points : (n : ℕ) → point_at (points_of_words sizes words) n ≡ point_at (points_of_words sizes before) n
    same_points = point_at-kept before words (KeepsNodes-children before words so_far.others) sizes

    -- a present node may be linked
    pub MayLink-present : 1 ≤ m → has m ≡ true → MayLink sizes words m
    MayLink-present later here = record {
      linked = so_far.linked;
      present = ap is_some (same_points m) ∙ unlinked.same m ∙ here;
      later = later;
      distinct = λ i j p one other. unlinked.distinct i j p (sym (same_points i) ∙ one) (sym (same_points j) ∙ other);
    }

    absent : (n : ℕ) → has n ≡ false → point_at (points_of_words sizes words) n ≡ None
    absent n none = none_some (point_at (points_of_words sizes words) n) (ap is_some (same_points n) ∙ unlinked.same n ∙ none)

    -- an absent one needs no link
    pub LinksSoFar-absent : has m ≡ false → LinksSoFar sizes has before words (m + 1)
    LinksSoFar-absent none = record {
      linked = record {
        ways =
            FollowWays-same (children_of_words words) (children_of_words words) (points_below sizes words m)
            (points_below sizes words (m + 1)) (λ n side. refl) same_below so_far.linked.ways;
        start = ap is_some (same_below 0) ∙ so_far.linked.start;
      };
      rise = so_far.rise;
      others = so_far.others;
    }
      where
        same_below : (n : ℕ) → point_at (points_below sizes words (m + 1)) n ≡ point_at (points_below sizes words m) n
        same_below n =
            elim (cases_lt n m) [
              | inl less ↦ point_at-lesser sizes words (m + 1) n (omega (arith, less)) ∙ sym (point_at-lesser sizes words m n less)
              | inr past ↦ elim (cases_eq n m) [
                | inl e ↦ (
                    point_at-lesser sizes words (m + 1) n (omega (arith, e)) ∙ ap (point_at (points_of_words sizes words)) e ∙ absent m none
                    ∙ sym (point_at-greater sizes words m n past))
                | inr apart ↦ point_at-greater sizes words (m + 1) n (omega (arith, past, apart)) ∙ sym (point_at-greater sizes words m n past)
              ]
            ]

    -- after the last number all nodes are linked
    pub FollowWays-all : ((n : ℕ) → m ≤ n → has n ≡ false) → FollowWays (children_of_words words) (points_of_words sizes words)
    FollowWays-all none_more =
        FollowWays-same (children_of_words words) (children_of_words words) (points_below sizes words m) (points_of_words sizes words)
        (λ n side. refl) same_all so_far.linked.ways
      where
        same_all : (n : ℕ) → point_at (points_of_words sizes words) n ≡ point_at (points_below sizes words m) n
        same_all n =
            elim (cases_lt n m) [
              | inl less ↦ sym (point_at-lesser sizes words m n less)
              | inr past ↦ absent n (none_more n past) ∙ sym (point_at-greater sizes words m n past)
            ]

    -- a linked one is linked
    pub LinksSoFar-more :
        (after : Words) → AreLinkedBelow sizes after (m + 1) → LinksRise (children_of_words after) → ChangesChildren words after
        → LinksSoFar sizes has before after (m + 1)
    LinksSoFar-more after linked rise change = record {
      linked = linked;
      rise = rise;
      others = λ name other. change name other ∙ so_far.others name other;
    }
