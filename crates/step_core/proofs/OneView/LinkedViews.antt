-- What a view has seen after it has linked its node: the node below the one at whose end it was put, with its point, its parent and its cost.
use Rattle.step_core.proofs.Words.{◌≡◌, ◌≢◌, ◌+◌, ◌<◌, ◌≤◌, ◌^◌, [], ◌∙◌, ◌⊎◌, ℕ, suc, Bool, List, length, sym, ap, subst, inl, inr, arith, linked}
use Rattle.step_core.proofs.Words.{pair_in_hand, saw, IsViewOf, last_look, last_zero, sees, AreBehind, HaveWholePairs, MayBecome, Falling, Once, Word, Words}
use Rattle.step_core.proofs.Words.{WritesWord, ChildOf, FirstOf, PointOf, TreeOf, point_word, Hand, SharedRun, View, IsRooted, IsSeen, MayBecome-refl}
use Rattle.step_core.proofs.Words.{MayLookAt, Sizes, seen_tree_of_words, kind_of, child_of_word}
use Rattle.step_core.proofs.Seen.Looks.{same_name, IsFair, IsRooted-seen, MayLookAt-more}
use Rattle.step_core.proofs.Seen.SeenByViews.{IsViewOf-saw, WritesWord-looked, WritesWord-saw, WritesWord-zero}

-- The node in hand is seen as the child of node n on this side, with its point, its tree word and its first word, and all else as before.
pub record ShowsNode (n : ℕ) (side : Bool) (hand : Hand) (before after : Words) : Type 0 where
  pub child : after (ChildOf n side) ≡ suc hand.mark
  pub point : after (PointOf (suc hand.mark)) ≡ point_word hand.point
  pub tree : after (TreeOf (suc hand.mark)) ≡ pair_in_hand hand
  pub first : after (FirstOf (suc hand.mark)) ≡ pair_in_hand hand
  pub others : (name : Word) → name ≢ ChildOf n side → name ≢ PointOf (suc hand.mark) → name ≢ TreeOf (suc hand.mark) → name ≢ FirstOf (suc hand.mark)
      → after name ≡ before name

-- It may be seen so, by what was seen before: no child was seen there.
pub record MayShow (n : ℕ) (side : Bool) (hand : Hand) (seen : Words) : Type 0 where
  pub child : seen (ChildOf n side) ≡ 0
  pub point : MayBecome Once (seen (PointOf (suc hand.mark))) (point_word hand.point)
  pub tree : MayBecome Falling (seen (TreeOf (suc hand.mark))) (pair_in_hand hand)
  pub first : MayBecome Once (seen (FirstOf (suc hand.mark))) (pair_in_hand hand)

-- the hand's words are the words now
pub record AreInHand (hand : Hand) (now : Words) : Type 0 where
  pub point : now (PointOf (suc hand.mark)) ≡ point_word hand.point
  pub tree : now (TreeOf (suc hand.mark)) ≡ pair_in_hand hand
  pub first : now (FirstOf (suc hand.mark)) ≡ pair_in_hand hand

-- what is behind the words now may show them
pub MayShow-behind :
    (n : ℕ) (side : Bool) (hand : Hand) (seen now : Words) → AreBehind seen now → now (ChildOf n side) ≡ 0 → AreInHand hand now → MayShow n side hand seen
MayShow-behind n side hand seen now behind empty own = record {
  child = elim (behind (ChildOf n side)) [ inl unseen ↦ unseen | inr same ↦ same ∙ empty ];
  point = subst (MayBecome Once (seen (PointOf (suc hand.mark)))) own.point (behind (PointOf (suc hand.mark)));
  tree = subst (MayBecome Falling (seen (TreeOf (suc hand.mark)))) own.tree (behind (TreeOf (suc hand.mark)));
  first = subst (MayBecome Once (seen (FirstOf (suc hand.mark)))) own.first (behind (FirstOf (suc hand.mark)));
}

module _ (run : SharedRun) (view : View) (of_run : IsViewOf run view) (hand : Hand) (n : ℕ) (side : Bool) (within : n ≤ length run.marks)
    (low : hand.mark < length run.marks) where
  -- whatever steps it notes, which are not seen
  abbrev then : View
  then = linked view hand n side []

  abbrev node : ℕ
  node = suc hand.mark

  -- the same before the other words are seen, one after the other
  abbrev child_shown : View
  child_shown = saw view (ChildOf n side) 0 node

  abbrev point_shown : View
  point_shown = saw child_shown (PointOf node) 0 (point_word hand.point)

  abbrev pair_shown : View
  pair_shown = saw point_shown (TreeOf node) 0 (pair_in_hand hand)

  here : node ≤ length run.marks
  here = omega (arith, low)

  shown_of_run : IsViewOf run child_shown
  shown_of_run = IsViewOf-saw run view of_run (ChildOf n side) within 0 node

  point_of_run : IsViewOf run point_shown
  point_of_run = IsViewOf-saw run child_shown shown_of_run (PointOf node) here 0 (point_word hand.point)

  pair_of_run : IsViewOf run pair_shown
  pair_of_run = IsViewOf-saw run point_shown point_of_run (TreeOf node) here 0 (pair_in_hand hand)

  pub sees-linked : ShowsNode n side hand (sees view) (sees then)
  sees-linked =
      let one = WritesWord-saw run view of_run (ChildOf n side) within 0 node in
      let two = WritesWord-saw run child_shown shown_of_run (PointOf node) here 0 (point_word hand.point) in
      let three = WritesWord-saw run point_shown point_of_run (TreeOf node) here 0 (pair_in_hand hand) in
      let four = WritesWord-saw run pair_shown pair_of_run (FirstOf node) here 0 (pair_in_hand hand) in
      record {
        child =
            four.others (ChildOf n side) (λ e. cc) ∙ three.others (ChildOf n side) (λ e. cc) ∙ two.others (ChildOf n side) (λ e. cc) ∙ one.here;
        point = four.others (PointOf node) (λ e. cc) ∙ three.others (PointOf node) (λ e. cc) ∙ two.here;
        tree = four.others (TreeOf node) (λ e. cc) ∙ three.here;
        first = four.here;
        others = λ name child point tree first. four.others name first ∙ three.others name tree ∙ two.others name point ∙ one.others name child;
      }

  -- It was the last look at the child word, which was found 0.
  pub WritesWord-look_linked : WritesWord (ChildOf n side) (view.steps + 1) (last_look view) (last_look then)
  WritesWord-look_linked = WritesWord-looked run view of_run (ChildOf n side) within 0 node

  pub WritesWord-zero_linked : WritesWord (ChildOf n side) (view.steps + 1) (last_zero view) (last_zero then)
  WritesWord-zero_linked = WritesWord-zero run view of_run (ChildOf n side) within node

  pub IsViewOf-linked : (steps : List ℕ) → IsViewOf run (linked view hand n side steps)
  IsViewOf-linked steps = record {
    run_is = of_run.run_is;
    seen = (IsViewOf-saw run pair_shown pair_of_run (FirstOf node) here 0 (pair_in_hand hand)).seen;
    looked = shown_of_run.looked;
    found_zero = shown_of_run.found_zero;
    looks = shown_of_run.looks;
    zero_looks = shown_of_run.zero_looks;
  }

-- ---- what is seen against what is so

module _ {n : ℕ} {side : Bool} {hand : Hand} {seen saw : Words} (shows : ShowsNode n side hand seen saw) where
  abbrev own : ℕ
  own = suc hand.mark

  -- what holds of the words that are shown, and of those that stay, holds of each
  pub by_shown : (has : Word → Type 0) → has (ChildOf n side) → has (PointOf own) → has (TreeOf own) → has (FirstOf own)
      → ((name : Word) → name ≢ ChildOf n side → saw name ≡ seen name → has name) → (name : Word) → has name
  by_shown has child point tree first others name =
      elim (same_name name (ChildOf n side)) [
        | inl e ↦ subst has (sym e) child
        | inr off ↦ elim (same_name name (PointOf own)) [
          | inl e ↦ subst has (sym e) point
          | inr off_point ↦ elim (same_name name (TreeOf own)) [
            | inl e ↦ subst has (sym e) tree
            | inr off_tree ↦ elim (same_name name (FirstOf own)) [
              | inl e ↦ subst has (sym e) first
              | inr off_first ↦ others name off (shows.others name off off_point off_tree off_first)
            ]
          ]
        ]
      ]

  -- What was seen may become what is seen,
  pub AreBehind-shown : MayShow n side hand seen → AreBehind seen saw
  AreBehind-shown may =
      by_shown (λ name. MayBecome (kind_of name) (seen name) (saw name)) (inl may.child)
      (subst (MayBecome Once (seen (PointOf own))) (sym shows.point) may.point) (subst (MayBecome Falling (seen (TreeOf own))) (sym shows.tree) may.tree)
      (subst (MayBecome Once (seen (FirstOf own))) (sym shows.first) may.first)
      (λ name off same. subst (MayBecome (kind_of name) (seen name)) (sym same) (MayBecome-refl (kind_of name) (seen name)))

  -- and what is seen what is so after the link, if the hand's words are there.
  pub AreBehind-linked : (after : Words) → AreBehind seen after → after (ChildOf n side) ≡ own → AreInHand hand after → AreBehind saw after
  AreBehind-linked after behind child words =
      by_shown (λ name. MayBecome (kind_of name) (saw name) (after name)) (inr (shows.child ∙ sym child)) (inr (shows.point ∙ sym words.point))
      (inr (inl (shows.tree ∙ sym words.tree))) (inr (shows.first ∙ sym words.first))
      (λ name off same. subst (λ w. MayBecome (kind_of name) w (after name)) (sym same) (behind name))

  -- All is seen from node 0 on, if the node above was.
  pub IsRooted-shown : (sizes : Sizes) → AreBehind seen saw → IsRooted (seen_tree_of_words sizes seen) → IsSeen (seen_tree_of_words sizes seen) n
      → IsRooted (seen_tree_of_words sizes saw)
  IsRooted-shown sizes go rooted above =
      let below : IsSeen (seen_tree_of_words sizes saw) own = inr (n, side, ap child_of_word shows.child) in
      IsRooted-seen sizes seen saw go rooted (by_shown (λ name. (saw name ≡ seen name) ⊎ MayLookAt (seen_tree_of_words sizes saw) name)
      (inr (MayLookAt-more sizes seen saw go (ChildOf n side) above)) (inr below) (inr below) (inr tt) (λ name off same. inl same))

  -- Each tree word that is seen is as before, or the hand's.
  pub HaveWholePairs-linked : HaveWholePairs seen → HaveWholePairs saw
  HaveWholePairs-linked whole a =
      elim (same_name (TreeOf a) (TreeOf own)) [
        | inl e ↦ inr (omega (arith, ap saw e ∙ shows.tree))
        | inr apart ↦
            subst (λ w. (w ≡ 0) ⊎ (2 ^ 63 ≤ w)) (sym (shows.others (TreeOf a) (λ e. cc) (λ e. cc) apart (λ e. cc))) (whole a)
      ]

  pub IsFair-linked : (now : Words) → now (TreeOf own) ≡ pair_in_hand hand → IsFair seen now saw
  IsFair-linked now is a =
      elim (same_name (TreeOf a) (TreeOf own)) [
        | inl e ↦ inr (ap saw e ∙ shows.tree ∙ sym (ap now e ∙ is))
        | inr apart ↦ inl (shows.others (TreeOf a) (λ e. cc) (λ e. cc) apart (λ e. cc))
      ]
