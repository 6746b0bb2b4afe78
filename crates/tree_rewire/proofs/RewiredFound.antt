-- Of the nodes found those that are dearer than through a new one are rewired, in rising number; the others need not be looked at.
use Rattle.tree_rewire.proofs.Words.{◌≡◌, ℕ, suc, ◌+◌, ◌≤◌, Bool, true, false, List, Option, Some, is_some, arith, refl, sym, ap, ◌∙◌, subst, All, Contains}
use Rattle.tree_rewire.proofs.Words.{IsPermutation, filter, nat_lt, eqb, unwrap_or, IsNonDecreasing, IsStrictlyIncreasing, nat_cmp, ltb-false, All-contains}
use Rattle.tree_rewire.proofs.Words.{All-contains_itself, All-filter, Contains-get_or, filter_passes, IsStrictlySortedBy-filter, Contains-permutation}
use Rattle.tree_rewire.proofs.Words.{IsPermutation-map, IsPermutation-sym, IsDistinct-IsPermutation, IsStrictlyIncreasing-from_distinct}
use Rattle.tree_rewire.proofs.Words.{sorted_from_strictly_increasing, Point, cost_of, Nodes, Rewires, ConfigurationSpace, CostsFall, parent_of, points_of}
use Rattle.tree_rewire.proofs.Words.{sum_of, AreDistinct, IsPresent, point_of, cost_of-swap, Contains-filter, point_of-stands, is_dearer, numbers_of}
use Rattle.tree_rewire.proofs.Words.{HasWholeShare, tree_words, Contains-number, distinct_numbers, eqb-swap, same_numbers, if_hand, Found, IsLawfulView}
use Rattle.tree_rewire.proofs.Words.{tree_seen, SeesPoint, View, AreOf, IsWeighed, Mirrors, HasPlaced, IsInReach, cost_seen, Hand, at_hand, some_hand}
use Rattle.tree_rewire.proofs.Words.{IfSome, IsSome}
use Rattle.tree_rewire.proofs.RewiredNodes.{placed_cost}
use Rattle.tree_rewire.proofs.FoundLists.{Contains-image, Contains-kept, kept_passes}
use Rattle.tree_rewire.proofs.MirroredTrees.{CostsFall-seen}
use Rattle.tree_rewire.proofs.SkippedNodes.{IsNoDearer, Rewires-some}

-- what a list has only where a test passes
filtered : (p : ℕ → Bool) (ns : List ℕ) (n : ℕ) → Contains (filter p ns) n → p n ≡ true
filtered p ns n on = All-contains (λ m. p m ≡ true) (filter p ns) n (filter_passes p ns) on

-- and what it has was there before
unfiltered : (p : ℕ → Bool) (ns : List ℕ) (n : ℕ) → Contains (filter p ns) n → Contains ns n
unfiltered p ns n on = All-contains (Contains ns) (filter p ns) n (All-filter p (Contains ns) ns (All-contains_itself ns)) on

-- Records with the costs of their edges to `from`; few of them were kept, sorted.
module _ (view : View) (from : Point) (cost : ℕ) (found few : List Found) (weighed : All (IsWeighed view from) found)
    (same : IsPermutation (filter (is_dearer (tree_words view) cost) found) few) where
  abbrev points : List (Option Point)
  points = (tree_seen view).points

  -- by its point, a node is dearer than this and its edge
  abbrev pub test : ℕ → Bool
  test n = nat_lt (cost + cost_of (point_of points n) from) (cost_seen view n)

  is_weighed : (f : Found) → Contains found f → IsWeighed view from f
  is_weighed f on = All-contains (IsWeighed view from) found f weighed on

  test_is : (f : Found) → Contains found f → is_dearer (tree_words view) cost f ≡ test f.node
  test_is f on =
      ap (λ e. nat_lt (cost + e) (cost_seen view f.node)) (is_weighed f on).edge

  -- the few are found, and dearer
  pub few_found : (f : Found) → Contains few f → Contains found f × (test f.node ≡ true)
  few_found f on =
      let own = kept_passes (is_dearer (tree_words view) cost) found f
      (Contains-permutation few (filter (is_dearer (tree_words view) cost) found) f
      (IsPermutation-sym (filter (is_dearer (tree_words view) cost) found) few same) on) in
      (own.0, sym (test_is f own.0) ∙ own.1)

  pub few_in : (i : ℕ) → Contains (numbers_of few) i → Contains (numbers_of found) i
  few_in i on =
      let f = Contains-number few i on in
      subst (Contains (numbers_of found)) f.2 (Contains-image (λ (g : Found). g.node) found f.0 (few_found f.0 f.1).0)

  -- and who is found and dearer is one of them
  pub few_all : (n : ℕ) → Contains (numbers_of found) n → test n ≡ true → Contains (numbers_of few) n
  few_all n on dearer =
      let f = Contains-number found n on in
      let passes = test_is f.0 f.1 ∙ ap test f.2 ∙ dearer in
      subst (Contains (numbers_of few)) f.2
      (Contains-image (λ (g : Found). g.node) few f.0
      (Contains-permutation (filter (is_dearer (tree_words view) cost) found) few f.0 same
      (Contains-kept (is_dearer (tree_words view) cost) found f.0 passes f.1)))

  -- So the few are the dearer ones of a rising list of the nodes found.
  pub few_is : (near : List ℕ) → IsNonDecreasing (numbers_of few) → IsStrictlyIncreasing near → AreOf found near → numbers_of few ≡ filter test near
  few_is near sorted rising of =
      let p = is_dearer (tree_words view) cost in
      let distinct = IsDistinct-IsPermutation eqb eqb-swap (numbers_of (filter p found)) (numbers_of few)
      (IsPermutation-map (λ (f : Found). f.node) (filter p found) few same) (distinct_numbers p found of.once) in
      same_numbers (numbers_of few) (filter test near)
      (sorted_from_strictly_increasing (numbers_of few) (IsStrictlyIncreasing-from_distinct (numbers_of few) sorted distinct))
      (IsStrictlySortedBy-filter nat_cmp test near (sorted_from_strictly_increasing near rising))
      (λ n on.
      let f = Contains-number few n on in
      Contains-filter test near n (sym (ap test f.2) ∙ (few_found f.0 f.1).1) (of.only n (few_in n on)))
      (λ n on. few_all n (of.all n (unfiltered test near n on)) (filtered test near n on))

-- ---- the tree that is seen

module _ (view : View) (tree : Nodes) (lawful : IsLawfulView view) (whole : HasWholeShare view) (mirrors : Mirrors view tree) where
  -- its sums fall along parents
  pub CostsFall-sums : CostsFall (sum_of tree) tree
  CostsFall-sums =
      let falls = CostsFall-seen view tree lawful whole mirrors.points mirrors.parents in
      record {
        start = falls.start;
        parent = falls.parent;
        falls = λ n here.
            omega (arith, falls.falls n here, mirrors.costs (suc n) here, mirrors.costs (parent_of tree (suc n)) (falls.parent n here));
      }

  -- and no two nodes stand at one point
  pub AreDistinct-seen : AreDistinct (points_of tree)
  AreDistinct-seen = λ i j p one other. lawful.distinct i j p (mirrors.points i ∙ one) (mirrors.points j ∙ other)

-- ---- who is not dearer need not be rewired

module _ (view : View) (from : Point) (cost n : ℕ) (found few : List Found) (weighed : All (IsWeighed view from) found)
    (same : IsPermutation (filter (is_dearer (tree_words view) cost) found) few) (tree : Nodes) (mirrors : Mirrors view tree)
    (parent_stands : SeesPoint view n from) (cost_is : cost ≡ cost_seen view n) where
  -- the new node and all that were found are in the tree
  pub parent_present : IsPresent (points_of tree) n
  parent_present = sym (ap is_some (mirrors.points n)) ∙ ap is_some parent_stands

  pub found_present : (i : ℕ) → Contains (numbers_of found) i → IsPresent (points_of tree) i
  found_present i on =
      let f = Contains-number found i on in
      let own = All-contains (IsWeighed view from) found f.0 weighed f.1 in
      subst (IsPresent (points_of tree)) f.2 (sym (ap is_some (mirrors.points f.0.node)) ∙ own.present)

  point_same : (i : ℕ) → point_of (points_of tree) i ≡ point_of (tree_seen view).points i
  point_same i = ap (λ o. unwrap_or o (record { x = 0; y = 0 })) (sym (mirrors.points i))

  pub no_dearer : (i : ℕ) → Contains (numbers_of found) i → test view from cost found few weighed same i ≡ false → IsNoDearer tree n i
  no_dearer i on off =
      let here = point_of (tree_seen view).points i in
      omega (
        arith,
        ltb-false (cost + cost_of here from) (cost_seen view i) off,
        cost_of-swap here from,
        cost_is,
        mirrors.costs n parent_present,
        mirrors.costs i (found_present i on),
        ap (λ q. cost_of q (point_of (points_of tree) i)) (point_same n ∙ point_of-stands (tree_seen view).points n from parent_stands),
        ap (cost_of from) (point_same i),
      )

  -- So rewiring the few in rising number is rewiring all near nodes.
  pub Rewires-few : (space : ConfigurationSpace) (near : List ℕ) (last : Nodes) → IsLawfulView view → HasWholeShare view
      → IsNonDecreasing (numbers_of few) → IsStrictlyIncreasing near → AreOf found near → Rewires space tree n (numbers_of few) last
      → Rewires space tree n near last
  Rewires-few space near last lawful whole sorted rising of rewired =
      Rewires-some space n (test view from cost found few weighed same) near tree last (CostsFall-sums view tree lawful whole mirrors)
      (AreDistinct-seen view tree lawful whole mirrors) parent_present
      (λ k d below. found_present _ (of.all _ (Contains-get_or near k d below)))
      (λ i on off. no_dearer i (of.all i on) off)
      (subst (λ ns. Rewires space tree n ns last) (few_is view from cost found few weighed same near sorted rising of) rewired)

-- ---- the hand of a new node

-- The hand that a pass holds, with what its new node and the nodes found keep.
pub record Holding (view : View) (k : ℕ) (found : List Found) : Type 0 where
  pub hand : Hand
  pub held : view.hand ≡ Some hand
  pub placed : HasPlaced view k hand
  pub near : All (IsInReach view hand.point) (numbers_of found)
  pub weighed : All (IsWeighed view hand.point) found

pub held_hand : (view : View) (k : ℕ) (found : List Found) → IsSome view.hand → IfSome view.hand (HasPlaced view k)
    → IfSome view.hand (λ h. All (IsInReach view h.point) (numbers_of found)) → IfSome view.hand (λ h. All (IsWeighed view h.point) found)
    → Holding view k found
held_hand view k found some placed near weighed =
    let held = some_hand view.hand some in
    record {
      hand = held.0;
      held = held.1;
      placed = at_hand (HasPlaced view k) view.hand held.0 held.1 placed;
      near = at_hand (λ h. All (IsInReach view h.point) (numbers_of found)) view.hand held.0 held.1 near;
      weighed = at_hand (λ h. All (IsWeighed view h.point) found) view.hand held.0 held.1 weighed;
    }

-- the new node costs at most what it was placed at
pub placed_cost_of : (view : View) (k : ℕ) (hand : Hand) → view.hand ≡ Some hand → HasPlaced view k hand → IsLawfulView view
    → cost_seen view (k + 1) ≤ hand.cost
placed_cost_of view k hand held placed lawful =
    placed_cost view k hand.point hand held (if_hand (HasPlaced view k) view.hand hand held placed)
    (if_hand (λ h. hand.point ≡ h.point) view.hand hand held refl)
    lawful
