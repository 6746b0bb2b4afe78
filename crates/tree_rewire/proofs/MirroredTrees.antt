-- A tree of the textbook that a view with the whole share sees: its costs are exact, and exact costs are sums.
use Rattle.tree_rewire.proofs.Words.{◌≡◌, ℕ, zero, suc, ◌+◌, ◌<◌, is_some, arith, refl, sym, ap, ◌∙◌, subst, unwrap_or, cost_of, KeepsOrder, IsPresent}
use Rattle.tree_rewire.proofs.Words.{point_at, point_of, Nodes, AreTight, CostsFall, edge_of, parent_of, points_of, TreeState, sum-parent, sums-tight}
use Rattle.tree_rewire.proofs.Words.{KeepsOrder-falls, PointOf, TreeOf, cost_in, parent_in, SeesAsBefore, HasWholeShare, IsLater, IsLawfulView, state_of_links}
use Rattle.tree_rewire.proofs.Words.{run_sizes, sees, setup_in, tree_seen, point_at-kept, View, Mirrors, SeesPair, cost_seen, seen_cost_through, parent_seen}
use Rattle.tree_rewire.proofs.Words.{AllTight}
use Rattle.tree_rewire.proofs.TightCosts.{IsPresent-linked, IsPresent-unlinked}

-- if all words are seen as before, so is the tree
pub Mirrors-same : (before after : View) (tree : Nodes) → IsLater before after → SeesAsBefore before after → Mirrors before tree → Mirrors after tree
Mirrors-same before after tree later same h = record {
  points = λ n. point_at-kept before after n later (same (PointOf n)) ∙ h.points n;
  written = λ n here. omega (arith, same (TreeOf n), h.written n here);
  parents = λ n here. ap parent_in (same (TreeOf n)) ∙ h.parents n here;
  costs = λ n here. ap cost_in (same (TreeOf n)) ∙ h.costs n here;
}

-- The view sees the nodes of a tree, with their parents.
module _ (view : View) (tree : Nodes) (lawful : IsLawfulView view) (whole : HasWholeShare view)
    (points : (n : ℕ) → point_at (tree_seen view).points n ≡ point_at (points_of tree) n)
    (parents : (n : ℕ) → IsPresent (points_of tree) n → parent_seen view n ≡ parent_of tree n) where
  abbrev state : TreeState
  state = state_of_links (run_sizes view.run) (sees view)

  order : KeepsOrder (setup_in view.run) state
  order = lawful.order whole

  pub is_seen : (n : ℕ) → IsPresent (points_of tree) n → IsPresent (tree_seen view).points n
  is_seen n here = ap is_some (points n) ∙ here

  pub is_of_tree : (n : ℕ) → IsPresent (tree_seen view).points n → IsPresent (points_of tree) n
  is_of_tree n here = sym (ap is_some (points n)) ∙ here

  linked : (n : ℕ) → IsPresent (points_of tree) n → IsPresent state.points n
  linked n here = IsPresent-linked view lawful n (is_seen n here)

  point_is : (n : ℕ) → point_of (tree_seen view).points n ≡ point_of (points_of tree) n
  point_is n = ap (λ o. unwrap_or o (record { x = 0; y = 0 })) (points n)

  start : IsPresent (points_of tree) 0
  start = is_of_tree 0 (ap is_some lawful.start)

  -- its costs fall along the parents
  pub CostsFall-seen : CostsFall (cost_seen view) tree
  CostsFall-seen = record {
    start = start;
    parent = λ n here.
        subst (IsPresent (points_of tree)) (parents (suc n) here)
        (is_of_tree (parent_seen view (suc n))
        (IsPresent-unlinked view lawful (parent_seen view (suc n)) (order.hangs n (linked (suc n) here)).present));
    falls = λ n here.
        subst (λ m. cost_seen view m < cost_seen view (suc n)) (parents (suc n) here)
        (KeepsOrder-falls (setup_in view.run) state order n (linked (suc n) here));
  }

  -- what a node costs through its parent
  through_is : (n : ℕ) → IsPresent (points_of tree) n
      → seen_cost_through view (point_of (tree_seen view).points n) (parent_seen view n) ≡ cost_seen view (parent_of tree n) + edge_of tree n
  through_is n here =
      ap (λ m. seen_cost_through view (point_of (tree_seen view).points n) m) (parents n here)
      ∙ omega (
        arith,
        ap (λ q. cost_of q (point_of (tree_seen view).points n)) (point_is (parent_of tree n)),
        ap (cost_of (point_of (points_of tree) (parent_of tree n))) (point_is n),
      )

  -- if they are exact, they are the sums
  pub Mirrors-tight : ((n : ℕ) → IsPresent (points_of tree) n → SeesPair view n) → AllTight view → Mirrors view tree
  Mirrors-tight written tight = record {
    points = points;
    written = written;
    parents = parents;
    costs = λ n here. sym (sums-tight (cost_seen view) (points_of tree) (parent_of tree) CostsFall-seen tight_tree n here);
  }
    where
      tight_tree : AreTight (cost_seen view) tree
      tight_tree = record {
        start = ((lawful.pairs 0 (written 0 start)).start refl).1;
        edges = λ n here.
            tight (suc n) (omega arith) (record { stands = is_seen (suc n) here; written = written (suc n) here }) ∙ through_is (suc n) here;
      }

-- and sums are exact
pub AllTight-mirrored : (view : View) (tree : Nodes) → IsLawfulView view → HasWholeShare view → Mirrors view tree → AllTight view
AllTight-mirrored view tree lawful whole h zero child knot = absurd (omega (arith, child))
AllTight-mirrored view tree lawful whole h (suc n) child knot =
    let here = is_of_tree view tree lawful whole h.points h.parents (suc n) knot.stands in
    let falls = CostsFall-seen view tree lawful whole h.points h.parents in
    omega (
      arith,
      h.costs (suc n) here,
      h.costs (parent_of tree (suc n)) (falls.parent n here),
      sum-parent (cost_seen view) (points_of tree) (parent_of tree) falls n here,
      through_is view tree lawful whole h.points h.parents (suc n) here,
    )
