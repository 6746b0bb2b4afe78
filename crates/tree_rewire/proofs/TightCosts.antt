-- The tree that a view with the whole share sees keeps the order law: so costs that are at most what they are through parents are exact.
use Rattle.tree_rewire.proofs.Words.{◌≡◌, ◌≢◌, ℕ, zero, suc, ◌<◌, ◌≤◌, is_some, arith, inl, inr, sym, ap, ◌∙◌, subst, unwrap_or, cases_eq, cases_lt, cost_of}
use Rattle.tree_rewire.proofs.Words.{KeepsOrder, IsPresent, point_at, point_of, PointOf, Sizes, IsLater, IsLawfulView, linked_points, state_of_links, run_sizes}
use Rattle.tree_rewire.proofs.Words.{sees, setup_in, tree_seen, point_at-kept, linked_points-seen, View, cost_seen, seen_cost_through, parent_seen, AllTight}
use Rattle.tree_rewire.proofs.Words.{AllTightBut, HasSpread, IsSource, KeepsParents, SeesKnot}

-- ---- the order law of what is seen

module _ (view : View) (lawful : IsLawfulView view) where
  abbrev sizes : Sizes
  sizes = run_sizes view.run

  -- the linked nodes are those that are seen, at the same points
  pub IsPresent-linked : (n : ℕ) → IsPresent (tree_seen view).points n → IsPresent (linked_points sizes (sees view)) n
  IsPresent-linked n present = subst (λ points. IsPresent points n) (sym (linked_points-seen view lawful)) present

  pub IsPresent-unlinked : (n : ℕ) → IsPresent (linked_points sizes (sees view)) n → IsPresent (tree_seen view).points n
  IsPresent-unlinked n present = subst (λ points. IsPresent points n) (linked_points-seen view lawful) present

  point_of-linked : (n : ℕ) → point_of (linked_points sizes (sees view)) n ≡ point_of (tree_seen view).points n
  point_of-linked n = ap (λ points. point_of points n) (linked_points-seen view lawful)

  -- by the order law each seen node costs at least what its parent costs and the edge
  pub seen_cost_through-least : KeepsOrder (setup_in view.run) (state_of_links sizes (sees view)) → (n : ℕ) → 0 < n → IsPresent (tree_seen view).points n
      → seen_cost_through view (point_of (tree_seen view).points n) (parent_seen view n) ≤ cost_seen view n
  seen_cost_through-least order zero child present = absurd (omega (arith, child))
  seen_cost_through-least order (suc n) child present =
      omega (
        arith,
        (order.hangs n (IsPresent-linked (suc n) present)).above,
        ap (cost_of (point_of (linked_points sizes (sees view)) (parent_seen view (suc n)))) (point_of-linked (suc n)),
        ap (λ q. cost_of q (point_of (tree_seen view).points (suc n))) (point_of-linked (parent_seen view (suc n))),
      )

-- ---- after a spread

module _ (node : ℕ) (before after : View) (lawful : IsLawfulView after)
    (order : KeepsOrder (setup_in after.run) (state_of_links (run_sizes after.run) (sees after)))
    (later : IsLater before after) (kept : KeepsParents before after) (spread : HasSpread node before after) (tight : AllTightBut node before) where
  point_same : (n : ℕ) → point_at (tree_seen after).points n ≡ point_at (tree_seen before).points n
  point_same n = point_at-kept before after n later (kept.others (PointOf n) (λ no. no))

  point_of_same : (n : ℕ) → point_of (tree_seen after).points n ≡ point_of (tree_seen before).points n
  point_of_same n = ap (λ o. unwrap_or o (record { x = 0; y = 0 })) (point_same n)

  -- a child of a source costs at most what it does through its parent, and so exactly that
  of_source : (n : ℕ) → 0 < n → SeesKnot after n → IsSource node before after (parent_seen after n)
      → cost_seen after n ≡ seen_cost_through after (point_of (tree_seen after).points n) (parent_seen after n)
  of_source n child knot source =
      let most = (spread n (kept.written n knot.written) source).most in
      omega (arith, most, seen_cost_through-least after lawful order n child knot.stands)

  -- the parent of any other costs what it did, and so does the child
  of_other : (n : ℕ) → 0 < n → SeesKnot after n → parent_seen after n ≢ node → cost_seen before (parent_seen after n) ≤ cost_seen after (parent_seen after n)
      → cost_seen after n ≡ seen_cost_through after (point_of (tree_seen after).points n) (parent_seen after n)
  of_other n child knot apart same =
      let parent : ℕ = parent_seen after n in
      let was : parent_seen before n ≡ parent = sym (kept.parents n) in
      let knot_was : SeesKnot before n = record {
        stands = sym (ap is_some (point_same n)) ∙ knot.stands;
        written = kept.written n knot.written;
      } in
      let exact : cost_seen before n ≡ seen_cost_through before (point_of (tree_seen before).points n) parent =
      subst (λ m. cost_seen before n ≡ seen_cost_through before (point_of (tree_seen before).points n) m) was
      (tight n child knot_was (λ e. apart (sym was ∙ e))) in
      omega (
        arith,
        exact,
        kept.costs n,
        kept.costs parent,
        same,
        seen_cost_through-least after lawful order n child knot.stands,
        ap (cost_of (point_of (tree_seen after).points parent)) (point_of_same n),
        ap (λ q. cost_of q (point_of (tree_seen before).points n)) (point_of_same parent),
      )

  -- Once costs have come to all below the node, each is exact.
  pub AllTight-spread : AllTight after
  AllTight-spread n child knot =
      let parent : ℕ = parent_seen after n in
      elim (cases_eq parent node) [
        | inl e ↦ of_source n child knot (inl e)
        | inr apart ↦ elim (cases_lt (cost_seen after parent) (cost_seen before parent)) [
          | inl fell ↦ of_source n child knot (inr fell)
          | inr same ↦ of_other n child knot apart same
        ]
      ]
