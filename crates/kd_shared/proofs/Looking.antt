-- What calls that look at nodes leave of a pass, one after another, and what they show of it.
use Rattle.kd_shared.proofs.Words.{◌≡◌, ℕ, ◌<◌, Bool, Option, Some, None, refl, sym, ap, ◌∙◌, inl, inr, ◌≢◌, MatchOption, Point, IsLaterMoment, KeepsSight}
use Rattle.kd_shared.proofs.Words.{IsSeen-more, ChangesOnly, Word, Words, WritesWord, ChildOf, PointOf, HasLooked-refl, SeesAsBefore, NamesChildOrPoint, GoesOn}
use Rattle.kd_shared.proofs.Words.{HasWholeShare, HasLooked, IsLater, IsLawfulView, loaded, SeesNode, SeesPoint, sight_in, sees, tree_seen, IsLater-refl}
use Rattle.kd_shared.proofs.Words.{IsLaterMoment-later, KeepsSight-lawful, same_name, point_at-kept, View, FindsChild, LoadsChild, LoadsPoint, OnlyLooks}

-- ---- one after another

pub OnlyLooks-refl : (view : View) → IsLawfulView view → OnlyLooks view view
OnlyLooks-refl view lawful = record {
  looks = record {
    goes_on = record { was_lawful = lawful; later = IsLater-refl view; lawful = lawful };
    others = λ name k. refl;
  };
  looked = HasLooked-refl view;
  kept = record { crew = refl; most = refl; hand = refl };
  whole = λ all name. refl;
}

-- ---- one load

-- if it finds the word as that was seen, nothing is seen anew
pub same_words : (before after : Words) (name : Word) (value : ℕ) → WritesWord name value before after → value ≡ before name → (other : Word)
    → after other ≡ before other
same_words before after name value writes same other =
    elim (same_name other name) [
      | inl e ↦ ap after e ∙ writes.here ∙ same ∙ sym (ap before e)
      | inr apart ↦ writes.others other apart
    ]

-- a step that shows no word but that of a child or of a point
pub OnlyLooks-loaded : (before after : View) (name : Word) (word : ℕ) → after ≡ loaded before name word → GoesOn before after
    → ChangesOnly NamesChildOrPoint (sees before) (sees after) → HasLooked before after → (HasWholeShare before → SeesAsBefore before after)
    → OnlyLooks before after
OnlyLooks-loaded before after name word is goes_on others looked whole = record {
  looks = record { goes_on = goes_on; others = others };
  looked = looked;
  kept = record {
    crew = ap (λ (v : View). v.crew) is;
    most = ap (λ (v : View). v.most) is;
    hand = ap (λ (v : View). v.hand) is;
  };
  whole = whole;
}

module _ (before after : View) (n : ℕ) (goes_on : GoesOn before after) where
  pub later_moment : IsLaterMoment (sight_in before) (sight_in after)
  later_moment = IsLaterMoment-later before after goes_on.later

  pub keeps_sight : KeepsSight (sight_in after)
  keeps_sight = KeepsSight-lawful after goes_on.lawful

  pub LoadsPoint-point : (p : Point) → SeesPoint after n p → ((other : Word) → other ≢ PointOf n → sees after other ≡ sees before other)
      → LoadsPoint (sight_in before) (sight_in after) n p
  LoadsPoint-point p found others = record {
    later = later_moment;
    keeps = keeps_sight;
    stands = found;
    others = λ m apart. point_at-kept before after m goes_on.later (others (PointOf m) (λ same. apart (node_of same)));
  }
    where
      node_in : Word → ℕ
      node_in (PointOf m) = m
      node_in _ = 0

      node_of : {m : ℕ} → PointOf m ≡ PointOf n → m ≡ n
      node_of same = ap node_in same

  pub LoadsChild-child : (side : Bool) (result : Option ℕ)
      → MatchOption result (before.steps < (sight_in after).found_empty n side) (λ c. ((tree_seen after).child n side ≡ Some c) × SeesNode after c)
      → ((other : Word) → other ≢ ChildOf n side → sees after other ≡ sees before other)
      → LoadsChild (sight_in before) (sight_in after) n side result
  LoadsChild-child side result found others = record {
    later = later_moment;
    keeps = keeps_sight;
    finds = by_result result found;
    points = λ m. point_at-kept before after m goes_on.later (others (PointOf m) (λ same. is_no_point same));
  }
    where
      by_result : (o : Option ℕ)
          → MatchOption o (before.steps < (sight_in after).found_empty n side) (λ c. ((tree_seen after).child n side ≡ Some c) × SeesNode after c)
          → FindsChild (sight_in before) (sight_in after) n side o
      by_result None empty = empty
      by_result (Some c) link = link.0

      is_no_point : {m : ℕ} → PointOf m ≢ ChildOf n side
      is_no_point same = cc

-- a seen node stays seen
pub SeesNode-later : (before after : View) (n : ℕ) → IsLater before after → SeesNode before n → SeesNode after n
SeesNode-later before after n later = IsSeen-more (tree_seen before) (tree_seen after) (IsLaterMoment-later before after later).seen n
