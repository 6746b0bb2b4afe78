-- The part of the law of worlds on the first words and the tree words of nodes in hand, after each kind of step.
use Rattle.step_core.proofs.Words.{◌≡◌, ◌≢◌, ◌≤◌, ◌∷◌, ◌∙◌, ℕ, suc, true, false, List, Option, Some, None, sym, ap, subst, arith, same_Some, some, get_elem?}
use Rattle.step_core.proofs.Words.{cost_of, node_count, GrowsInto, TreeState, once_if, Hangs-grows, most_cost_of-le, IsPresent-grows, node_count-grows}
use Rattle.step_core.proofs.Words.{point_of-grows, is_linked, Words, FirstOf, TreeOf, has_first, has_link, has_tree, holds_at, pair_in_hand, run_sizes}
use Rattle.step_core.proofs.Words.{setup_in, EachView, IsFirstOf, Pairs, hands_at, is_recorded, state_in, Hand, SharedRun, Stage, View, Treed}
use Rattle.step_core.proofs.Parts.HandsAt.{IsBlank-hand, IsBlank-recorded, IsBlank-step, alone-held, hands_at-less}
use Rattle.step_core.proofs.Parts.MarksInHand.{once_if-false}
use Rattle.step_core.proofs.Parts.Shifts.{IsShift, Shift, each-later, later_views}
use Rattle.step_core.proofs.Parts.WorldLinks.{has_node-recorded, unlinked-held}

-- ---- the first word in hand

-- What was so of it stays so, since no cost rises and all nodes stay.
pub IsFirstOf-grows :
    (run : SharedRun) (before after : Words) (hand : Hand) → GrowsInto (state_in run before) (state_in run after)
    → after (FirstOf (suc hand.mark)) ≡ before (FirstOf (suc hand.mark)) → IsFirstOf run before hand → IsFirstOf run after hand
IsFirstOf-grows run before after hand grows same first =
    let was : TreeState = state_in run before in
    let now : TreeState = state_in run after in
    let count = node_count-grows was now grows in
    record {
      word = same ∙ first.word;
      fits = first.fits;
      hangs = Hangs-grows (setup_in run) was now grows (suc hand.mark) hand.point hand.parent hand.cost first.hangs;
      below_first =
          omega (
            arith,
            first.below_first,
            grows.first_costs hand.parent first.hangs.present,
            ap (λ p. cost_of p hand.point) (point_of-grows was now grows hand.parent first.hangs.present),
          );
      nearest = IsPresent-grows was now grows hand.nearest first.nearest;
      below_nearest =
          omega (
            arith,
            first.below_nearest,
            grows.first_costs hand.nearest first.nearest,
            ap (λ p. cost_of p hand.point) (point_of-grows was now grows hand.nearest first.nearest),
          );
      bounded =
          omega (
            arith,
            first.bounded,
            most_cost_of-le (setup_in run) (suc (node_count was.points)) (suc (node_count now.points)) (omega (arith, count)),
          );
    }

-- It does not ask how far the hand has come, nor for the best in it.
pub IsFirstOf-stage : (run : SharedRun) (words : Words) (hand : Hand) (stage : Stage) (best : Option ℕ) → IsFirstOf run words hand
    → IsFirstOf run words (record hand { stage = stage; best = best })
IsFirstOf-stage run words hand stage best first = record {
  word = first.word;
  fits = first.fits;
  hangs = first.hangs;
  below_first = first.below_first;
  nearest = first.nearest;
  below_nearest = first.below_nearest;
  bounded = first.bounded;
}

-- ---- all hands

-- what the law asks of the hand of one view
abbrev pub HasFirst : SharedRun → Words → View → Type 0
HasFirst run words view = (hand : Hand) → view.hand ≡ Some hand → has_first hand.stage ≡ true → IsFirstOf run words hand

abbrev pub HasTree : Words → View → Type 0
HasTree words view =
    (hand : Hand) → view.hand ≡ Some hand → has_tree hand.stage ≡ true → has_link hand.stage ≡ false → words (TreeOf (suc hand.mark)) ≡ pair_in_hand hand

-- a hand without a mark has no words
pub HasFirst-none : (run : SharedRun) (words : Words) (view : View) → view.hand ≡ None → HasFirst run words view
HasFirst-none run words view none hand held = cc

pub HasTree-none : (words : Words) (view : View) → view.hand ≡ None → HasTree words view
HasTree-none words view none hand held = cc

-- other views, in whose hands as many such words are
pub Pairs-views :
    (run : SharedRun) (words : Words) (views later : List View) → Pairs run words views → EachView later (HasFirst run words) → EachView later (HasTree words)
    → ((k : ℕ) → hands_at has_first k later ≡ hands_at has_first k views) → ((k : ℕ) → hands_at has_tree k later ≡ hands_at has_tree k views)
    → Pairs run words later
Pairs-views run words views later pairs first tree firsts trees = record {
  first = first;
  tree = tree;
  no_first = λ k no_record no_hand. pairs.no_first k no_record (sym (firsts k) ∙ no_hand);
  no_tree = λ k no_record no_hand. pairs.no_tree k no_record (sym (trees k) ∙ no_hand);
}

-- a node that is linked has its tree word
linked_treed : (stage : Stage) → once_if (has_link stage) ≤ once_if (has_tree stage)
linked_treed Treed = omega arith
linked_treed stage = omega arith

module _ {s : Shift} (is : IsShift s) (grows : GrowsInto (state_in s.now.run s.now.words) (state_in s.now.run s.after)) where
  -- a node in no hand that has its tree word, and of a mark without a record, is not linked
  not_linked : (k : ℕ) → is_recorded s.now.words k ≡ false → hands_at has_tree k s.now.views ≡ 0 → is_linked (run_sizes s.now.run) s.now.words (suc k) ≡ false
  not_linked k no_record no_hand =
      once_if-false (is_linked (run_sizes s.now.run) s.now.words (suc k))
      (omega (
        arith,
        is.moment.world.links.linked k,
        hands_at-less has_link has_tree linked_treed k s.now.views,
        no_hand,
        has_node-recorded s.now.words k,
        ap once_if no_record,
      ))

  -- ---- steps that write no such word of a node in hand

  module _ (firsts : (n : ℕ) → s.after (FirstOf n) ≡ s.now.words (FirstOf n))
      (trees : (n : ℕ) → is_linked (run_sizes s.now.run) s.now.words n ≡ false → s.after (TreeOf n) ≡ s.now.words (TreeOf n)) where
    -- the other views keep their words
    first_kept : (i : ℕ) (u : View) → get_elem? s.now.views i ≡ some u → HasFirst s.now.run s.after u
    first_kept i u e hand held far =
        IsFirstOf-grows s.now.run s.now.words s.after hand grows (firsts (suc hand.mark)) (is.moment.world.pairs.first i u e hand held far)

    tree_kept : (i : ℕ) (u : View) → get_elem? s.now.views i ≡ some u → HasTree s.after u
    tree_kept i u e hand held far not_yet =
        trees (suc hand.mark) (unlinked-held is.moment.world i u e hand held not_yet)
        ∙ is.moment.world.pairs.tree i u e hand held far not_yet

    -- of the hand it is asked that it has come no further
    pub Pairs-step :
        ((k : ℕ) → is_recorded s.after k ≡ is_recorded s.now.words k) → HasFirst s.now.run s.after s.then → HasTree s.after s.then
        → ((k : ℕ) → holds_at has_first k s.then.hand ≡ holds_at has_first k s.now.view.hand)
        → ((k : ℕ) → holds_at has_tree k s.then.hand ≡ holds_at has_tree k s.now.view.hand) → Pairs s.now.run s.after (later_views s)
    Pairs-step recorded first tree same_first same_tree = record {
      first = each-later is (HasFirst s.now.run s.after) (λ i u apart. first_kept i u) first;
      tree = each-later is (HasTree s.after) (λ i u apart. tree_kept i u) tree;
      no_first = IsBlank-step is has_first (λ k. FirstOf (suc k)) is.moment.world.pairs.no_first (λ k none no_hand. firsts (suc k)) recorded
          same_first;
      no_tree = IsBlank-step is has_tree (λ k. TreeOf (suc k)) is.moment.world.pairs.no_tree
          (λ k none no_hand. trees (suc k) (not_linked k none no_hand)) recorded same_tree;
    }

    -- the hand stays as it is
    pub Pairs-same : ((k : ℕ) → is_recorded s.after k ≡ is_recorded s.now.words k) → s.then.hand ≡ s.now.view.hand → Pairs s.now.run s.after (later_views s)
    Pairs-same recorded same =
        Pairs-step recorded (λ hand held. first_kept s.now.id s.now.view is.moment.at hand (sym same ∙ held))
        (λ hand held. tree_kept s.now.id s.now.view is.moment.at hand (sym same ∙ held)) (λ k. ap (holds_at has_first k) same)
        (λ k. ap (holds_at has_tree k) same)

    -- a record of the mark in hand
    pub Pairs-recorded :
        (hand : Hand) → s.now.view.hand ≡ Some hand → s.then.hand ≡ None → is_recorded s.after hand.mark ≡ true
        → ((k : ℕ) → k ≢ hand.mark → is_recorded s.after k ≡ is_recorded s.now.words k) → Pairs s.now.run s.after (later_views s)
    Pairs-recorded hand held idle now recorded = record {
      first = each-later is (HasFirst s.now.run s.after) (λ i u apart. first_kept i u) (HasFirst-none s.now.run s.after s.then idle);
      tree = each-later is (HasTree s.after) (λ i u apart. tree_kept i u) (HasTree-none s.after s.then idle);
      no_first = IsBlank-recorded is has_first (λ k. FirstOf (suc k)) is.moment.world.pairs.no_first hand held idle
          (λ k none no_hand. firsts (suc k)) now recorded;
      no_tree = IsBlank-recorded is has_tree (λ k. TreeOf (suc k)) is.moment.world.pairs.no_tree hand held idle
          (λ k none no_hand. trees (suc k) (not_linked k none no_hand)) now recorded;
    }

  -- ---- the mark in hand

  module _ (hand : Hand) (held : s.now.view.hand ≡ Some hand) where
    -- Of a step for it that writes at most its own words it is asked that they are as far as its hand says.
    pub Pairs-hand :
        (next : Hand) → s.then.hand ≡ Some next → next.mark ≡ hand.mark → ((n : ℕ) → n ≢ suc hand.mark → s.after (FirstOf n) ≡ s.now.words (FirstOf n))
        → ((n : ℕ) → n ≢ suc hand.mark → s.after (TreeOf n) ≡ s.now.words (TreeOf n)) → ((k : ℕ) → is_recorded s.after k ≡ is_recorded s.now.words k)
        → (has_first next.stage ≡ true → IsFirstOf s.now.run s.after next)
        → (has_tree next.stage ≡ true → has_link next.stage ≡ false → s.after (TreeOf (suc next.mark)) ≡ pair_in_hand next)
        → (has_first next.stage ≡ false → s.after (FirstOf (suc hand.mark)) ≡ 0) → (has_tree next.stage ≡ false → s.after (TreeOf (suc hand.mark)) ≡ 0)
        → Pairs s.now.run s.after (later_views s)
    Pairs-hand next now same_mark firsts trees recorded first tree none_first none_tree = record {
      first = each-later is (HasFirst s.now.run s.after) (λ i u apart e own has far.
          IsFirstOf-grows s.now.run s.now.words s.after own grows (firsts (suc own.mark) (λ same. alone i u own apart e has (omega (arith, same))))
          (is.moment.world.pairs.first i u e own has far))
          (λ own has far. by_own (λ h. has_first h.stage ≡ true → IsFirstOf s.now.run s.after h) first own has far);
      tree = each-later is (HasTree s.after) (λ i u apart e own has far not_yet.
          trees (suc own.mark) (λ same. alone i u own apart e has (omega (arith, same))) ∙ is.moment.world.pairs.tree i u e own has far not_yet)
          (λ own has far not_yet.
          by_own (λ h. has_tree h.stage ≡ true → has_link h.stage ≡ false → s.after (TreeOf (suc h.mark)) ≡ pair_in_hand h) tree own has far not_yet);
      no_first = IsBlank-hand is has_first (λ k. FirstOf (suc k)) is.moment.world.pairs.no_first hand held next now same_mark
          (λ k apart. firsts (suc k) (λ e. apart (omega (arith, e)))) recorded none_first;
      no_tree = IsBlank-hand is has_tree (λ k. TreeOf (suc k)) is.moment.world.pairs.no_tree hand held next now same_mark
          (λ k apart. trees (suc k) (λ e. apart (omega (arith, e)))) recorded none_tree;
    }
      where
        alone : (i : ℕ) (other : View) (own : Hand) → i ≢ s.now.id → get_elem? s.now.views i ≡ some other → other.hand ≡ Some own → own.mark ≢ hand.mark
        alone = alone-held is.moment held

        by_own : (has : Hand → Type 0) → has next → (own : Hand) → s.then.hand ≡ Some own → has own
        by_own has of own there = subst has (same_Some next own (sym now ∙ there)) of
