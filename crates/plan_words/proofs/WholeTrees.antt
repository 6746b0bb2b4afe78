-- The tree that a pass with the share of all workers has seen, with its records, is that of the linked nodes.
use Rattle.plan_words.proofs.Words.{◌≡◌, ℕ, ◌+◌, Bool, true, false, List, None, sym, ap, ◌∙◌, subst, inl, inr, ◌==◌, ◌||◌, if◌then◌else◌, map, unwrap_or}
use Rattle.plan_words.proofs.Words.{list_any, range_with_len, cases_Bool, IsPresent, point_at, AreSameRuns, is_linked, Words, ChildOf, PointOf, TreeOf, Sizes}
use Rattle.plan_words.proofs.Words.{cost_in, parent_in, point_of_word, linked_point, linked_points, state_of_links, run_sizes, sees, share, IsWorld, state_in}
use Rattle.plan_words.proofs.Words.{linked-present, children-whole, records-whole, sees-whole, SharedRun, View}
use mathlib.Core.Option.{some}
use lib.ListN.{get_elem?}
use Rattle.plan_words.proofs.LookedNodes.{unwrap_or-child}

module _ (run : SharedRun) (words : Words) (views : List View) (id : ℕ) (view : View) (world : IsWorld run words views)
    (at : get_elem? views id ≡ some view) (own : view.run ≡ run) (whole : share view ≡ run.workers) where
  abbrev sizes : Sizes
  sizes = run_sizes run

  child-whole : (n : ℕ) (side : Bool) → words (ChildOf n side) ≡ sees view (ChildOf n side)
  child-whole n side =
      sym (unwrap_or-child (words (ChildOf n side)))
      ∙ ap (λ o. unwrap_or o 0) (sym (children-whole run words views id view world at whole n side))
      ∙ unwrap_or-child (sees view (ChildOf n side))

  -- which nodes are linked, by the children of each
  abbrev links : (ℕ → Bool → ℕ) → ℕ → Bool
  links child n = (n == 0) || list_any (λ m. (child m false == n) || (child m true == n)) (range_with_len 0 (sizes.marks + 1))

  linked-whole : (n : ℕ) → is_linked sizes words n ≡ is_linked sizes (sees view) n
  linked-whole n = ap (λ child. links child n) (λ t m side. child-whole m side t)

  point-whole : (n : ℕ) → linked_point sizes words n ≡ linked_point sizes (sees view) n
  point-whole n =
      elim (cases_Bool (is_linked sizes words n)) [
        | inl linked ↦
            ap (λ b. if b then point_of_word (words (PointOf n)) else None) (linked-whole n)
            ∙ ap (λ w. if is_linked sizes (sees view) n then point_of_word w else None)
            (sym (sees-whole run words views id view world at whole (PointOf n) linked))
        | inr unlinked ↦
            ap (λ b. if b then point_of_word (words (PointOf n)) else None) unlinked
            ∙ sym (ap (λ b. if b then point_of_word (sees view (PointOf n)) else None) (sym (linked-whole n) ∙ unlinked))
      ]

  points-whole : linked_points sizes words ≡ linked_points (run_sizes view.run) (sees view)
  points-whole =
      ap (λ f. map f (range_with_len 0 (sizes.marks + 1))) (λ t n. point-whole n t)
      ∙ ap (λ r. linked_points (run_sizes r) (sees view)) (sym own)

  tree-whole : (n : ℕ) → IsPresent (linked_points (run_sizes view.run) (sees view)) n → words (TreeOf n) ≡ sees view (TreeOf n)
  tree-whole n here =
      let linked = linked-present sizes words n (subst (λ points. IsPresent points n) (sym points-whole) here) in
      sym (sees-whole run words views id view world at whole (TreeOf n) linked)

  pub AreSameRuns-whole : AreSameRuns (state_of_links (run_sizes view.run) (sees view)) (state_in run words)
  AreSameRuns-whole = record {
    points = λ n. ap (λ points. point_at points n) points-whole;
    parents = λ n here. ap parent_in (tree-whole n here);
    costs = λ n here. ap cost_in (tree-whole n here);
    records = λ k. sym (records-whole run words views id view world at whole k);
  }
