-- What a pass has seen of a node after it has loaded a word of it.
use Rattle.plan_words.proofs.Words.{◌≡◌, ℕ, zero, suc, ◌<◌, ◌≤◌, ◌^◌, Bool, length, Some, inl, inr, refl, sym, ap, ◌∙◌, subst, arith, MatchOption, unwrap_or}
use Rattle.plan_words.proofs.Words.{IsEdgeSeen, IsPairIn, FindsPoint, GoesOn, child_of_word, sizes_in, Word, ChildOf, PointOf, TreeOf, place_of, cost_in}
use Rattle.plan_words.proofs.Words.{parent_in, point_in, point_of_word, if_written-set, IsLawfulView, place_in, saw, saw_at, SeesNode, SeesPoint, last_zero}
use Rattle.plan_words.proofs.Words.{run_sizes, sees, tree_seen, WritesWord-saw, WritesWord-zero, point_at-seen, SharedRun, View, WordPlaces}

-- the number of a seen node is one of the run's
pub seen_low : (view : View) (run : SharedRun) (node : ℕ) → IsLawfulView view → view.run ≡ run → SeesNode view node → node ≤ length run.marks
seen_low view run node lawful own seen = subst (λ r. node ≤ length r.marks) own (lawful.within node seen)

-- the place of a word, by what the tree keeps of places
pub place_here :
    (places : WordPlaces) (run : SharedRun) (view : View) (name : Word) (place : ℕ) → sizes_in places ≡ run_sizes run → view.run ≡ run
    → place ≡ place_of (sizes_in places) name → place ≡ place_in view name
place_here places run view name place same own is = is ∙ ap (λ s. place_of s name) same ∙ ap (λ r. place_of (run_sizes r) name) (sym own)

-- the word of a child that is read
pub unwrap_or-child : (word : ℕ) → unwrap_or (child_of_word word) 0 ≡ word
unwrap_or-child zero = refl
unwrap_or-child (suc n) = refl

-- ---- children

module _
    (view then : View) (node : ℕ) (side : Bool) (place x : ℕ) (lawful : IsLawfulView view) (seen : SeesNode view node)
    (at_place : place ≡ place_in view (ChildOf node side)) (is : then ≡ saw_at view place x x) where
  then_child : then ≡ saw view (ChildOf node side) x x
  then_child = is ∙ ap (λ n. saw_at view n x x) at_place

  child_word : sees then (ChildOf node side) ≡ x
  child_word =
      ap (λ v. sees v (ChildOf node side)) then_child
      ∙ (WritesWord-saw view.run view lawful.of_run (ChildOf node side) (lawful.within node seen) x x).here

  pub child_seen : (tree_seen then).child node side ≡ child_of_word x
  child_seen = ap child_of_word child_word

  -- It is seen, or there was none at this step.
  pub child_found : MatchOption (child_of_word x) (view.steps < last_zero then (ChildOf node side))
      (λ c. ((tree_seen then).child node side ≡ Some c) × SeesNode then c)
  child_found = by_word x refl
    where
      by_word : (word : ℕ) → x ≡ word
          → MatchOption (child_of_word word) (view.steps < last_zero then (ChildOf node side))
          (λ c. ((tree_seen then).child node side ≡ Some c) × SeesNode then c)
      by_word zero e =
          let looked = ap (λ v. last_zero v (ChildOf node side)) (then_child ∙ ap (λ n. saw view (ChildOf node side) n n) e)
          ∙ (WritesWord-zero view.run view lawful.of_run (ChildOf node side) (lawful.within node seen) 0).here in
          omega (arith, looked)
      by_word (suc n) e =
          let child = child_seen ∙ ap child_of_word e in
          (child, inr (node, side, child))

  -- so its number is one of the run's
  pub child_fits : IsLawfulView then → x < 2 ^ 32
  child_fits lawful_then = by_word x refl
    where
      by_word : (word : ℕ) → x ≡ word → word < 2 ^ 32
      by_word zero e = omega arith
      by_word (suc n) e =
          let low = lawful_then.within (suc n) (inr (node, side, child_seen ∙ ap child_of_word e)) in
          omega (arith, low, lawful_then.run.marks)

-- ---- points

module _
    (view then : View) (node place x : ℕ) (lawful : IsLawfulView view) (seen : SeesNode view node) (at_place : place ≡ place_in view (PointOf node))
    (is : then ≡ saw_at view place x x) (written : FindsPoint view place x) where
  pub point_word_seen : sees then (PointOf node) ≡ x
  point_word_seen =
      ap (λ v. sees v (PointOf node)) (is ∙ ap (λ n. saw_at view n x x) at_place)
      ∙ (WritesWord-saw view.run view lawful.of_run (PointOf node) (lawful.within node seen) x x).here

  pub point_found : SeesPoint then node (point_in x)
  point_found =
      let within = subst (λ v. node ≤ length v.run.marks) (sym is) (lawful.within node seen) in
      point_at-seen (run_sizes then.run) (sees then) node within
      ∙ ap point_of_word point_word_seen ∙ if_written-set x (point_in x) (written node seen at_place)

-- ---- parents and costs

module _
    (view then : View) (node place x : ℕ) (lawful : IsLawfulView view) (seen : SeesNode view node) (at_place : place ≡ place_in view (TreeOf node))
    (is : then ≡ saw_at view place x x) where
  pub tree_word_seen : sees then (TreeOf node) ≡ x
  tree_word_seen =
      ap (λ v. sees v (TreeOf node)) (is ∙ ap (λ n. saw_at view n x x) at_place)
      ∙ (WritesWord-saw view.run view lawful.of_run (TreeOf node) (lawful.within node seen) x x).here

  pub pair_found : (pair : ℕ × ℕ) → pair.0 ≡ parent_in x → pair.1 ≡ cost_in x → 2 ^ 63 ≤ x → IsPairIn (sees then (TreeOf node)) pair
  pair_found pair parent cost written = record {
    written = omega (arith, tree_word_seen, written);
    parent = parent ∙ ap parent_in (sym tree_word_seen);
    cost = cost ∙ ap cost_in (sym tree_word_seen);
  }

-- of a pair that is found, whichever step found it
module _ (before after : View) (node : ℕ) (pair : ℕ × ℕ) (goes_on : GoesOn before after) (found : IsPairIn (sees after (TreeOf node)) pair) where
  -- the cost is no more than one that was seen
  pub pair_not_above : 2 ^ 63 ≤ sees before (TreeOf node) → pair.1 ≤ cost_in (sees before (TreeOf node))
  pair_not_above written =
      elim (goes_on.later.seen (TreeOf node)) [
        | inl none ↦ absurd (omega (arith, none, written))
        | inr (inl same) ↦ omega (arith, found.cost, ap cost_in same)
        | inr (inr fell) ↦ omega (arith, found.cost, fell.1)
      ]

  -- and the edge is allowed
  pub IsEdgeSeen-pair : IsEdgeSeen after node pair.0
  IsEdgeSeen-pair = subst (IsEdgeSeen after node) (sym found.parent) ((goes_on.lawful.pairs node found.written).edge)
