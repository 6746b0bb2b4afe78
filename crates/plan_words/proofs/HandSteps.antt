-- What a pass keeps and has seen after a step for the mark in its hand.
use Rattle.plan_words.proofs.Words.{◌≡◌, ◌≢◌, ℕ, zero, suc, ◌+◌, ◌<◌, ◌≤◌, ◌^◌, Bool, true, false, List, length, Option, Some, None, inr, refl, sym, ap, ◌∙◌}
use Rattle.plan_words.proofs.Words.{subst, arith, ◌==◌, cond, IfSome, IsSome, is_some, eqb-true, ne_eqb, IsBounded, child_of_word, ChangesOnly, Word}
use Rattle.plan_words.proofs.Words.{WritesWord, Best, ChildOf, Count, Counter, FirstOf, PointOf, RecordOf, TreeOf, point_of_word, point_of_word-packed}
use Rattle.plan_words.proofs.Words.{HasLinked, IsLinkedAt, NamesChildOrPoint, NamesNode, PassState, with_view, IsLawfulView, has_point, counted, last_look}
use Rattle.plan_words.proofs.Words.{last_note, linked, linked_at, loaded, note_before, place_in, saw_at, LeadsTo, SeesNode, run_sizes, sees, tree_seen}
use Rattle.plan_words.proofs.Words.{IsBounded-steered, sees-linked, WritesWord-looked, WritesWord-saw, point_at-seen, Hand, Treed, View}
use Rattle.plan_words.proofs.LookedNodes.{child_fits, child_seen}

-- children and points are words of nodes
pub NamesNode-child : (name : Word) → NamesChildOrPoint name → NamesNode name
NamesNode-child Count h = h
NamesNode-child Best h = h
NamesNode-child (Counter g) h = h
NamesNode-child (PointOf n) h = tt
NamesNode-child (ChildOf n side) h = tt
NamesNode-child (TreeOf n) h = tt
NamesNode-child (FirstOf n) h = tt
NamesNode-child (RecordOf k) h = h

-- what is said of a hand holds of the one that there is
pub at_hand : (has : Hand → Type 0) (o : Option Hand) (hand : Hand) → o ≡ Some hand → IfSome o has → has hand
at_hand has o hand is held = subst (λ h. IfSome h has) is held

-- there is one
pub some_hand : (o : Option Hand) → IsSome o → (hand : Hand) × (o ≡ Some hand)
some_hand None is = cc
some_hand (Some hand) is = (hand, refl)

-- ---- a link that was tried

module _ (view : View) (hand : Hand) (place found : ℕ) (steps : List ℕ) (held : view.hand ≡ Some hand) where
  abbrev tried : Bool → View
  tried b = cond b (linked_at view hand place steps) (saw_at view place found found)

  -- what was found is 0, or the number of a node
  pub tried_fits :
      (n : ℕ) (side : Bool) → IsLawfulView view → SeesNode view n → place ≡ place_in view (ChildOf n side) → IsLawfulView (tried (found == 0))
      → found < 2 ^ 32
  tried_fits n side lawful seen at_place lawful_then = by_test (found == 0) refl lawful_then
    where
      by_test : (b : Bool) → (found == 0) ≡ b → IsLawfulView (tried b) → found < 2 ^ 32
      by_test true e then = (let none = eqb-true found 0 e in omega (arith, none))
      by_test false e then = child_fits view (saw_at view place found found) n side place found lawful seen at_place refl then

-- a node to which a way leads is seen
pub leads_seen : (view : View) (hand : Hand) (n : ℕ) (side : Bool) → IsLawfulView view → LeadsTo view hand.point n side → SeesNode view n
leads_seen view hand n side lawful leads = lawful.tree.rooted.points n (ap is_some leads.stands)

-- ---- a link that was made

-- it is counted then
pub linked_view :
    (old mid new : PassState) (n : ℕ) (side : Bool) (found : ℕ) → found ≡ 0
    → IfSome old.view.hand (λ hand.
    mid ≡ with_view old (cond (found == 0) (linked old.view hand n side (last_note mid.view)) (loaded old.view (ChildOf n side) found)))
    → IfSome mid.view.hand (λ hand. new ≡ with_view mid (counted mid.view hand (note_before new.view 0).word (last_note new.view)))
    → IfSome old.view.hand (HasLinked old new n side)
linked_view old mid new n side found none first then = by_hand old.view.hand first
  where
    by_hand :
        (o : Option Hand)
        → IfSome o (λ hand.
        mid ≡ with_view old (cond (found == 0) (linked old.view hand n side (last_note mid.view)) (loaded old.view (ChildOf n side) found)))
        → IfSome o (HasLinked old new n side)
    by_hand None is = tt
    by_hand (Some hand) is =
        let steps : List ℕ = last_note mid.view in
        let last : List ℕ = last_note new.view in
        let word : ℕ = (note_before new.view 0).word in
        let made : mid ≡ with_view old (linked old.view hand n side steps) =
        is ∙ ap (λ r. with_view old (cond (r == 0) (linked old.view hand n side steps) (loaded old.view (ChildOf n side) r))) none in
        let count : new ≡ with_view old (counted (linked old.view hand n side steps) hand word last) =
        subst (λ m. IfSome m.view.hand (λ h. new ≡ with_view m (counted m.view h word last))) made then in
        let same : (note_before new.view 1).steps ≡ steps = ap (λ p. (note_before p.view 1).steps) count in
        count ∙ ap (λ l. with_view old (counted (linked old.view hand n side l) hand word last)) (sym same)

module _ (view then : View) (hand : Hand) (n : ℕ) (side : Bool) (steps last : List ℕ) (count : ℕ) (lawful : IsLawfulView view)
    (held : view.hand ≡ Some hand) (stage : hand.stage ≡ Treed) (leads : LeadsTo view hand.point n side)
    (is : then ≡ counted (linked view hand n side steps) hand count last) where
  within : n ≤ length view.run.marks
  within = lawful.within n (leads_seen view hand n side lawful leads)

  low : hand.mark < length view.run.marks
  low = lawful.mark hand held

  bounded : IsBounded hand.point
  bounded =
      IsBounded-steered view hand.mark hand.nearest hand.point (lawful.run.points hand.mark)
      ((lawful.tree.holds hand held).steered_from (ap has_point stage))

  -- it is seen where it stands
  pub IsLinkedAt-counted : IsLinkedAt then n side hand
  IsLinkedAt-counted =
      let shows = sees-linked view.run view lawful.of_run hand n side within low in
      subst (λ v. IsLinkedAt v n side hand) (sym is) (record {
        child = ap child_of_word shows.child;
        point =
            point_at-seen (run_sizes view.run) (sees (linked view hand n side steps)) (suc hand.mark) (omega (arith, low))
            ∙ ap point_of_word shows.point ∙ point_of_word-packed hand.point bounded;
        pair = shows.tree;
        first = shows.first;
        counted = refl;
      })

  -- the child was looked at by the first step
  pub looked-linked : WritesWord (ChildOf n side) (view.steps + 1) (last_look view) (last_look then)
  looked-linked =
      subst (λ v. WritesWord (ChildOf n side) (view.steps + 1) (last_look view) (last_look v)) (sym is)
      (WritesWord-looked view.run view lawful.of_run (ChildOf n side) within 0 (suc hand.mark))

  -- and nothing else is seen anew
  pub ChangesOnly-linked : ChangesOnly NamesNode (sees view) (sees then)
  ChangesOnly-linked name other =
      let shows = sees-linked view.run view lawful.of_run hand n side within low in
      ap (λ v. sees v name) is
      ∙ shows.others name (λ e. other (subst NamesNode (sym e) tt)) (λ e. other (subst NamesNode (sym e) tt)) (λ e. other (subst NamesNode (sym e) tt))
      (λ e. other (subst NamesNode (sym e) tt))

-- ---- a link that met a child

pub met_view :
    (old mid : PassState) (hand : Hand) (n : ℕ) (side : Bool) (found : ℕ) → found ≢ 0
    → mid ≡ with_view old (cond (found == 0) (linked old.view hand n side (last_note mid.view)) (loaded old.view (ChildOf n side) found))
    → mid.view ≡ loaded old.view (ChildOf n side) found
met_view old mid hand n side found some_child is =
    ap (λ p. p.view) is
    ∙ ap (λ b. cond b (linked old.view hand n side (last_note mid.view)) (loaded old.view (ChildOf n side) found)) (ne_eqb found 0 some_child)

module _
    (view then : View) (n : ℕ) (side : Bool) (c : ℕ) (lawful : IsLawfulView view) (seen : SeesNode view n) (some_child : c ≢ 0)
    (is : then ≡ loaded view (ChildOf n side) c) where
  pub child_met : ((tree_seen then).child n side ≡ Some c) × SeesNode then c
  child_met = by_word c refl some_child
    where
      by_word : (word : ℕ) → c ≡ word → word ≢ 0 → ((tree_seen then).child n side ≡ Some word) × SeesNode then word
      by_word zero e some_word = absurd (some_word refl)
      by_word (suc m) e some_word =
          let child = child_seen view then n side (place_in view (ChildOf n side)) c lawful seen refl is ∙ ap child_of_word e in
          (child, inr (n, side, child))

  pub ChangesOnly-met : ChangesOnly NamesChildOrPoint (sees view) (sees then)
  ChangesOnly-met name other =
      ap (λ v. sees v name) is
      ∙ (WritesWord-saw view.run view lawful.of_run (ChildOf n side) (lawful.within n seen) c c).others name (λ e. other (subst NamesChildOrPoint (sym e) tt))

  pub looked-met : WritesWord (ChildOf n side) (view.steps + 1) (last_look view) (last_look then)
  looked-met =
      subst (λ v. WritesWord (ChildOf n side) (view.steps + 1) (last_look view) (last_look v)) (sym is)
      (WritesWord-looked view.run view lawful.of_run (ChildOf n side) (lawful.within n seen) c c)

  pub ChangesOnly-met_node : ChangesOnly NamesNode (sees view) (sees then)
  ChangesOnly-met_node name other = ChangesOnly-met name (λ h. other (NamesNode-child name h))
