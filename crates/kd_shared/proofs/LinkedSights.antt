-- What a pass with the share of all workers sees after the node in hand was placed: the tree that it saw before, with that node.
use Rattle.kd_shared.proofs.Words.{◌≡◌, ℕ, suc, ◌^◌, ◌<◌, ◌≤◌, Bool, true, false, List, length, Option, Some, None, refl, sym, ap, ◌∙◌, subst, inl, inr, IfSome}
use Rattle.kd_shared.proofs.Words.{cases_eq, Point, IsFree, IsPresent, point_at, IsOnWay, child_of_word, has_node, record_at, seen_tree_of_words, ChangesOnly}
use Rattle.kd_shared.proofs.Words.{Word, ChildOf, FirstOf, PointOf, RecordOf, TreeOf, cost_in, parent_in, record_of_word, cost_in-tree_word}
use Rattle.kd_shared.proofs.Words.{parent_in-tree_word, GoesOn, HasLinked, HasWholeShare, PassState, IsLinkedAt-counted, leads_seen, IsLater, IsLawfulView}
use Rattle.kd_shared.proofs.Words.{has_first, has_link, counted, linked, LeadsTo, SeesNode, SeesPoint, run_sizes, sees, tree_seen, IsLater-trans}
use Rattle.kd_shared.proofs.Words.{record-unplaced, ShowsNode, sees-linked, point_at-kept, linked_points-seen, Hand, Treed, View, OnlyLooks, AddsHand}
use Rattle.kd_shared.proofs.Words.{IsWordOfLink, SeesLinked, state_seen}

-- what holds of any hand holds of the one that there is
pub IfSome-all : {Holds : Hand → Type 0} (held : Option Hand) → ((hand : Hand) → Holds hand) → IfSome held Holds
IfSome-all None holds = tt
IfSome-all (Some hand) holds = holds hand

module _ (entry now : View) (all : HasWholeShare entry) (looks : OnlyLooks entry now) where
  -- the tree is seen as before
  same_tree : tree_seen now ≡ tree_seen entry
  same_tree =
      ap (λ run. seen_tree_of_words (run_sizes run) (sees now)) looks.looks.goes_on.later.run
      ∙ ap (seen_tree_of_words (run_sizes entry.run)) (λ t name. looks.whole all name t)

  -- so ways lead where they did
  leads_same : (p : Point) (n : ℕ) (side : Bool) → LeadsTo now p n side → LeadsTo entry p n side
  leads_same p n side leads = record {
    depth = leads.depth;
    at = leads.at;
    on_way = subst (λ tree. IsOnWay tree.child tree.points p leads.depth n) same_tree leads.on_way;
    stands = sym (point_at-kept entry now n looks.looks.goes_on.later (looks.whole all (PointOf n))) ∙ leads.stands;
    apart = leads.apart;
    side_is = leads.side_is;
  }

  -- and no node is seen where none was
  free_same : (p : Point) (n : ℕ) → SeesPoint now n p → ¬ IsFree (tree_seen entry).points p
  free_same p n stands free = free n (sym (point_at-kept entry now n looks.looks.goes_on.later (looks.whole all (PointOf n))) ∙ stands)

  -- ---- the node in hand is linked

  module _ (after : View) (hand : Hand) (n : ℕ) (side : Bool) (steps last : List ℕ) (count : ℕ) (later : IsLater now after)
      (held : now.hand ≡ Some hand) (treed : hand.stage ≡ Treed) (leads : LeadsTo now hand.point n side)
      (is : after ≡ counted (linked now hand n side steps) hand count last) where
    lawful : IsLawfulView now
    lawful = looks.looks.goes_on.lawful

    within : n ≤ length now.run.marks
    within = lawful.within n (leads_seen now hand n side lawful leads)

    low : hand.mark < length now.run.marks
    low = lawful.mark hand held

    shows : ShowsNode n side hand (sees now) (sees after)
    shows = subst (λ v. ShowsNode n side hand (sees now) (sees v)) (sym is) (
        let here = sees-linked now.run now lawful.of_run hand n side within low in
        record { child = here.child; point = here.point; tree = here.tree; first = here.first; others = here.others })

    -- no child was seen there, or the node in hand was seen before it was linked
    none_there : sees now (ChildOf n side) ≡ 0
    none_there =
        elim (later.seen (ChildOf n side)) [
          | inl none ↦ none
          | inr same ↦ absurd (lawful.unseen hand held (ap has_link treed) (inr (n, side, ap child_of_word (same ∙ shows.child))))
        ]

    abbrev own_word : Word → Type 0
    own_word = IsWordOfLink n side (suc hand.mark)

    others : ChangesOnly own_word (sees entry) (sees after)
    others name off =
        shows.others name (λ e. off (subst own_word (sym e) (refl, refl))) (λ e. off (subst own_word (sym e) refl))
        (λ e. off (subst own_word (sym e) refl)) (λ e. off (subst own_word (sym e) refl))
        ∙ looks.whole all name

    -- ---- the tree in the words that are seen

    was_lawful : IsLawfulView entry
    was_lawful = looks.looks.goes_on.was_lawful

    fits : (hand.parent < 2 ^ 18) × (hand.cost < 2 ^ 44)
    fits = lawful.pair_fits hand held (ap has_first treed)

    unseen : ¬ SeesNode entry (suc hand.mark)
    unseen = was_lawful.unseen hand (sym looks.kept.hand ∙ held) (ap has_link treed)

    -- the record of its mark, if there were one, would not say that it was placed
    same_record : (k : ℕ) → record_at (sees after) k ≡ record_at (sees entry) k
    same_record k =
        ap (λ word. record_of_word word (sees after (FirstOf (suc k)))) (others (RecordOf k) (λ no. no))
        ∙ elim (cases_eq (suc k) (suc hand.mark)) [
          | inr apart ↦ ap (record_of_word (sees entry (RecordOf k))) (others (FirstOf (suc k)) apart)
          | inl e ↦ record-unplaced (sees entry (RecordOf k)) (sees entry (FirstOf (suc k))) (sees after (FirstOf (suc k)))
              (by_test (has_node (sees entry) (suc k)) refl e)
        ]
      where
        by_test : (b : Bool) → has_node (sees entry) (suc k) ≡ b → suc k ≡ suc hand.mark → has_node (sees entry) (suc k) ≡ false
        by_test false placed e = placed
        by_test true placed e =
            absurd (unseen (subst (SeesNode entry) e (was_lawful.tree.rooted.points (suc k) (was_lawful.tree.placed k placed))))

    AddsHand-linked : IsLawfulView after → AddsHand (state_seen entry) (state_seen after) hand
    AddsHand-linked lawful_then = record {
      absent = λ here. unseen (was_lawful.tree.rooted.points (suc hand.mark)
          (subst (λ l. IsPresent l (suc hand.mark)) (linked_points-seen entry was_lawful) here));
      stands = ap (λ l. point_at l (suc hand.mark)) (linked_points-seen after lawful_then)
          ∙ (IsLinkedAt-counted now after hand n side steps last count lawful held treed leads is).point;
      parent = ap parent_in shows.tree ∙ parent_in-tree_word hand.parent hand.cost fits.0;
      cost = ap cost_in shows.tree ∙ cost_in-tree_word hand.parent hand.cost fits.0 fits.1;
      written_cost = ap cost_in shows.first ∙ cost_in-tree_word hand.parent hand.cost fits.0 fits.1;
      points = λ m apart.
          ap (λ l. point_at l m) (linked_points-seen after lawful_then)
          ∙ point_at-kept entry after m (IsLater-trans entry now after looks.looks.goes_on.later later) (others (PointOf m) apart)
          ∙ sym (ap (λ l. point_at l m) (linked_points-seen entry was_lawful));
      parents = λ m apart. ap parent_in (others (TreeOf m) apart);
      costs = λ m apart. ap cost_in (others (TreeOf m) apart);
      written_costs = λ m apart. ap cost_in (others (FirstOf m) apart);
      records = same_record;
    }

    SeesLinked-linked : IsLawfulView after → SeesLinked entry after hand
    SeesLinked-linked lawful_then = record {
      above = n;
      side = side;
      leads = leads_same hand.point n side leads;
      empty = sym (looks.whole all (ChildOf n side)) ∙ none_there;
      child = shows.child;
      point = shows.point;
      pair = shows.tree;
      first = shows.first;
      others = others;
      tree = AddsHand-linked lawful_then;
    }

-- ---- by the hand

pub IfSome-free : (Holds : Type 0) (entry now : View) (p : Point) (n : ℕ) (held : Option Hand) → HasWholeShare entry → OnlyLooks entry now
    → IfSome held (λ hand. p ≡ hand.point) → SeesPoint now n p → IfSome held (λ hand. IsFree (tree_seen entry).points hand.point → Holds)
IfSome-free Holds entry now p n None all looks is stands = tt
IfSome-free Holds entry now p n (Some hand) all looks is stands = λ free. absurd
    (free_same entry now all looks hand.point n (subst (SeesPoint now n) is stands) free)

pub IfSome-sees_linked : (entry : View) (mid after : PassState) (n : ℕ) (side : Bool) (held : Option Hand) → HasWholeShare entry → OnlyLooks entry mid.view
    → GoesOn mid.view after.view → mid.view.hand ≡ held → IfSome held (λ hand. hand.stage ≡ Treed)
    → IfSome held (λ hand. LeadsTo mid.view hand.point n side)
    → IfSome mid.view.hand (HasLinked mid after n side)
    → IfSome held (λ hand. SeesLinked entry after.view hand)
IfSome-sees_linked entry mid after n side None all looks goes_on kept treed leads is = tt
IfSome-sees_linked entry mid after n side (Some hand) all looks goes_on kept treed leads is =
    let made : HasLinked mid after n side hand = subst (λ o. IfSome o (HasLinked mid after n side)) kept is in
    SeesLinked-linked entry mid.view all looks after.view hand n side _ _ _ goes_on.later kept treed leads
    (ap (λ (p : PassState). p.view) made) goes_on.lawful
