-- What a pass has seen after it has tried to lower the cost of a node.
use Rattle.plan_words.proofs.Words.{◌≡◌, ◌≢◌, ℕ, refl, sym, ap, ◌∙◌, subst, arith, ◌==◌, cond, is_some, ne_eqb, FindsLess, IsPairIn, PassState, with_view}
use Rattle.plan_words.proofs.Words.{IsLawfulView, last_note, loaded, lowered, MayLower, SeesNode, sees, WritesWord-saw, WritesWord, TreeOf, cost_in, parent_in}
use Rattle.plan_words.proofs.Words.{tree_word, cost_in-tree_word}
use Rattle.std.proofs.lemmas.Bool.{eq-eqb}
use Rattle.plan_words.proofs.KeptPairs.{fits_word}

module _ (old new : PassState) (n parent cost found : ℕ) (lawful : IsLawfulView old.view) (may : MayLower old.view n parent cost)
    (is : new ≡ with_view old
    (cond (found == sees old.view (TreeOf n)) (lowered old.view n parent cost (last_note new.view)) (loaded old.view (TreeOf n) found))) where
  node_seen : SeesNode old.view n
  node_seen = lawful.tree.rooted.points n (ap is_some may.seen.stands)

  -- ---- the word was as it was seen

  module _ (same : found ≡ sees old.view (TreeOf n)) where
    pub lowered_pass : new ≡ with_view old (lowered old.view n parent cost (last_note new.view))
    lowered_pass =
        is ∙ ap (λ b. with_view old (cond b (lowered old.view n parent cost (last_note new.view)) (loaded old.view (TreeOf n) found)))
        (eq-eqb found (sees old.view (TreeOf n)) same)

    wrote : WritesWord (TreeOf n) (tree_word parent cost) (sees old.view) (sees new.view)
    wrote =
        subst (λ p. WritesWord (TreeOf n) (tree_word parent cost) (sees old.view) (sees p.view)) (sym lowered_pass)
        (WritesWord-saw old.view.run old.view lawful.of_run (TreeOf n) (lawful.within n node_seen) (sees old.view (TreeOf n)) (tree_word parent cost))

    pub lowered_writes : WritesWord (TreeOf n) (sees new.view (TreeOf n)) (sees old.view) (sees new.view)
    lowered_writes = record { here = refl; others = wrote.others }

    -- its cost is lower
    pub lowered_less : FindsLess (sees old.view (TreeOf n)) (sees new.view (TreeOf n))
    lowered_less =
        let fits = fits_word old.view may.at parent cost lawful may.below in
        record {
          written = omega (arith, wrote.here);
          less = omega (arith, ap cost_in wrote.here, cost_in-tree_word parent cost fits.0 fits.1, may.cheaper, may.seen.cost_is);
        }

  -- ---- another word was found

  module _ (other : found ≢ sees old.view (TreeOf n)) (less : FindsLess (sees old.view (TreeOf n)) found) where
    loaded_pass : new ≡ with_view old (loaded old.view (TreeOf n) found)
    loaded_pass =
        is ∙ ap (λ b. with_view old (cond b (lowered old.view n parent cost (last_note new.view)) (loaded old.view (TreeOf n) found)))
        (ne_eqb found (sees old.view (TreeOf n)) other)

    loads : WritesWord (TreeOf n) found (sees old.view) (sees new.view)
    loads =
        subst (λ p. WritesWord (TreeOf n) found (sees old.view) (sees p.view)) (sym loaded_pass)
        (WritesWord-saw old.view.run old.view lawful.of_run (TreeOf n) (lawful.within n node_seen) found found)

    pub found_pass : new ≡ with_view old (loaded old.view (TreeOf n) (sees new.view (TreeOf n)))
    found_pass = loaded_pass ∙ ap (λ w. with_view old (loaded old.view (TreeOf n) w)) (sym loads.here)

    pub found_writes : WritesWord (TreeOf n) (sees new.view (TreeOf n)) (sees old.view) (sees new.view)
    found_writes = record { here = refl; others = loads.others }

    pub found_less : FindsLess (sees old.view (TreeOf n)) (sees new.view (TreeOf n))
    found_less = subst (FindsLess (sees old.view (TreeOf n))) (sym loads.here) less

    pub found_pair : (pair : ℕ × ℕ) → pair.0 ≡ parent_in found → pair.1 ≡ cost_in found → IsPairIn (sees new.view (TreeOf n)) pair
    found_pair pair parent_is cost_is = record {
      written = omega (arith, loads.here, less.written);
      parent = parent_is ∙ ap parent_in (sym loads.here);
      cost = cost_is ∙ ap cost_in (sym loads.here);
    }
