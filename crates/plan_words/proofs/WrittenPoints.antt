-- The point of each node that a view has seen is written, whether or not the view has seen that too.
use Rattle.plan_words.proofs.Words.{◌≡◌, ℕ, ◌+◌, ◌≤◌, ◌^◌, Bool, true, false, List, length, Some, None, inl, inr, sym, ap, ◌∙◌, subst, arith, cond, is_some}
use Rattle.plan_words.proofs.Words.{cases_lt, lt-ltb, get_or-map-range_with_len, IsPresent, point_at, is_linked, Words, PointOf, Sizes, point_in, point_of_word}
use Rattle.plan_words.proofs.Words.{linked_point, linked_points, SeesNode, run_sizes, IsWorld, IsPresent-seen, follow, seen_within, tree, SharedRun, View}
use mathlib.Core.Option.{some}
use lib.ListN.{get_elem?}

-- a word that holds a point is written
written-some : (word : ℕ) (b : Bool) → is_some (cond b (point_of_word word) None) ≡ true → 2 ^ 63 ≤ word
written-some word false h = cc
written-some word true h =
    elim (cases_lt word (2 ^ 63)) [
      | inr at_least ↦ at_least
      | inl low ↦ (let none = ap (λ t. is_some (cond t None (Some (point_in word)))) (lt-ltb word (2 ^ 63) low) in cc)
    ]

-- so is the point of a linked node
written-linked : (sizes : Sizes) (words : Words) (n : ℕ) → n ≤ sizes.marks → IsPresent (linked_points sizes words) n → 2 ^ 63 ≤ words (PointOf n)
written-linked sizes words n within h =
    let here : point_at (linked_points sizes words) n ≡ linked_point sizes words n =
    get_or-map-range_with_len (linked_point sizes words) 0 (sizes.marks + 1) n n None (omega (arith, within)) (omega arith) in
    written-some (words (PointOf n)) (is_linked sizes words n) (sym (ap is_some here) ∙ h)

module _ (run : SharedRun) (words : Words) (views : List View) (id : ℕ) (view : View) (world : IsWorld run words views)
    (at : get_elem? views id ≡ some view) (own : view.run ≡ run) where
  pub written-seen : (n : ℕ) → SeesNode view n → 2 ^ 63 ≤ words (PointOf n)
  written-seen n seen =
      let within = subst (λ r. n ≤ length r.marks) (sym own) (seen_within run words views id view world at own n seen) in
      let linked = IsPresent-seen view words (world.seen.behind id view at) (tree run words views id view world at own)
      (follow run words views id view world at own) n seen in
      written-linked (run_sizes view.run) words n within linked
