-- Each word that tells of the run is seen as it is after a step of one view, too: a word that stays is seen so by the view that saw it so before,
-- and one that changes by the view that makes the step.
use Rattle.step_core.proofs.Words.{◌≡◌, ◌≢◌, ◌<◌, [], ◌∷◌, ◌++◌, ◌∙◌, ◌⊎◌, ℕ, suc, Bool, true, List, sym, ap, subst, inl, inr, cases_eq, is_linked, AreBehind}
use Rattle.step_core.proofs.Words.{MayBecome, kind_of, Apart, Word, Words, WritesWord, Best, ChildOf, Count, Counter, FirstOf, PointOf, RecordOf, TreeOf}
use Rattle.step_core.proofs.Words.{MayBecome-both, run_sizes, sees, share, BestCopy, Copies, IsTold, SomeSharer, Hand, SharedRun, View}
use Rattle.step_core.proofs.OneView.LinkedViews.{AreInHand, ShowsNode}
use Rattle.step_core.proofs.Seen.Looks.{same_name}
use Rattle.step_core.proofs.Parts.ViewLists.{at-push, at-set_other, same-at}
use Rattle.step_core.proofs.Parts.WorldLinks.{KeepsLinks, is_linked-kept}
use Rattle.step_core.proofs.Parts.Shifts.{IsShift, Shift, at-then, later_views}
use Rattle.step_core.proofs.Parts.WorldParts.{SeesOn}

-- what was seen as it is, is seen so later, if it stays
pub same-later :
    (name : Word) → kind_of name ≢ Apart → (saw sees now : Words) → AreBehind saw sees → AreBehind sees now → saw name ≡ now name → sees name ≡ now name
same-later name told saw sees now more behind same =
    MayBecome-both (kind_of name) told (now name) (sees name) (subst (λ w. MayBecome (kind_of name) w (sees name)) same (more name)) (behind name)

-- ---- which words tell of the run

-- the best word does not
pub told-kind : (run : SharedRun) (words : Words) (name : Word) → IsTold run words name → kind_of name ≢ Apart
told-kind run words Best told = absurd told
told-kind run words name told = λ e. cc

module _ (run : SharedRun) (before after : Words) where
  -- while children stay, the same words do
  pub IsTold-kept : KeepsLinks (run_sizes run) before after → (name : Word) → IsTold run after name → IsTold run before name
  IsTold-kept keeps (PointOf n) told = sym (is_linked-kept (run_sizes run) before after keeps n) ∙ told
  IsTold-kept keeps (ChildOf n side) told = sym (is_linked-kept (run_sizes run) before after keeps n) ∙ told
  IsTold-kept keeps (TreeOf n) told = sym (is_linked-kept (run_sizes run) before after keeps n) ∙ told
  IsTold-kept keeps (FirstOf n) told = sym (is_linked-kept (run_sizes run) before after keeps n) ∙ told
  IsTold-kept keeps name told = told

-- ---- a step of one view

module _ {s : Shift} (is : IsShift s) (shares : 0 < share s.now.view → 0 < share s.then) where
  -- A view with a share has a property after a step of one view if it had one before that stays, for that view by the step.
  SomeSharer-later :
      (had has : View → Type 0) → ((u : View) → had u → has u) → (had s.now.view → has s.then) → SomeSharer s.now.run s.now.views had
      → SomeSharer s.now.run (later_views s) has
  SomeSharer-later had has stays goes sharer =
      elim (same-at s.now.views sharer.id s.now.id sharer.view s.now.view sharer.at is.moment.at) [
        | inl (same, own) ↦ record {
          id = s.now.id;
          view = s.then;
          at = at-then is;
          run_is = is.of_run.run_is;
          part = shares (subst (λ u. 0 < share u) own sharer.part);
          same = goes (subst had own sharer.same);
        }
        | inr apart ↦ record {
          id = sharer.id;
          view = sharer.view;
          at = at-set_other s.now.views s.now.id sharer.id s.then apart ∙ sharer.at;
          run_is = sharer.run_is;
          part = sharer.part;
          same = stays sharer.view sharer.same;
        }
      ]

  -- The best word is seen as it is after a step of one view, if it stays, and the view sees it then as it is if it did before.
  pub BestCopy-step :
      s.after Best ≡ s.now.words Best → (s.now.view.best ≡ s.now.words Best → s.then.best ≡ s.after Best) → BestCopy s.now.run s.after (later_views s)
  BestCopy-step stays keeps =
      SomeSharer-later (λ u. u.best ≡ s.now.words Best) (λ u. u.best ≡ s.after Best) (λ u saw. saw ∙ sym stays) keeps is.moment.world.best_copy

-- a word stays and told of the run before, or the view has a share and sees it as it is
abbrev pub IsToldOn : Shift → Word → Type 0
IsToldOn s name = ((s.after name ≡ s.now.words name) × IsTold s.now.run s.now.words name) ⊎ ((0 < share s.then) × (sees s.then name ≡ s.after name))

module _ {s : Shift} (is : IsShift s) (on : SeesOn s) (shares : 0 < share s.now.view → 0 < share s.then) where
  -- so it is of each word
  pub Copies-step :
      ((name : Word) → IsTold s.now.run s.after name → IsToldOn s name) → Copies s.now.run s.after (later_views s)
  Copies-step each name told =
      elim (each name told) [
        | inr seen ↦ record { id = s.now.id; view = s.then; at = at-then is; run_is = is.of_run.run_is; part = seen.0; same = seen.1 }
        | inl (stays, was) ↦
            SomeSharer-later is shares (λ u. sees u name ≡ s.now.words name) (λ u. sees u name ≡ s.after name) (λ u saw. saw ∙ sym stays)
            (λ saw. same-later name (told-kind s.now.run s.after name told) (sees s.now.view) (sees s.then) s.after on.more on.behind (saw ∙ sym stays))
            (is.moment.world.copies name was)
      ]

  -- one word is written, which is seen as it is then
  pub Copies-seen :
      (name : Word) (x : ℕ) → WritesWord name x s.now.words s.after → KeepsLinks (run_sizes s.now.run) s.now.words s.after → 0 < share s.then
      → sees s.then name ≡ x → Copies s.now.run s.after (later_views s)
  Copies-seen name x writes keeps part seen = Copies-step each
    where
      each : (other : Word) → IsTold s.now.run s.after other → IsToldOn s other
      each other told =
          elim (same_name other name) [
            | inl e ↦ inr (part, ap (sees s.then) e ∙ seen ∙ sym (ap s.after e ∙ writes.here))
            | inr apart ↦ inl (writes.others other apart, IsTold-kept s.now.run s.now.words s.after keeps other told)
          ]

  -- one word is written that does not tell of the run
  pub Copies-untold :
      (name : Word) (x : ℕ) → WritesWord name x s.now.words s.after → KeepsLinks (run_sizes s.now.run) s.now.words s.after
      → ¬ IsTold s.now.run s.now.words name → Copies s.now.run s.after (later_views s)
  Copies-untold name x writes keeps untold = Copies-step each
    where
      each : (other : Word) → IsTold s.now.run s.after other → IsToldOn s other
      each other told =
          let was = IsTold-kept s.now.run s.now.words s.after keeps other told in
          inl (writes.others other (λ e. untold (subst (IsTold s.now.run s.now.words) e was)), was)

  -- a node is linked: its words tell of the run from then on, and all are seen
  pub Copies-linked :
      (hand : Hand) (n : ℕ) (side : Bool) → WritesWord (ChildOf n side) (suc hand.mark) s.now.words s.after → 0 < share s.then
      → ShowsNode n side hand (sees s.now.view) (sees s.then) → AreInHand hand s.after → ((right : Bool) → s.now.words (ChildOf (suc hand.mark) right) ≡ 0)
      → ((m : ℕ) → m ≢ suc hand.mark → is_linked (run_sizes s.now.run) s.after m ≡ is_linked (run_sizes s.now.run) s.now.words m)
      → Copies s.now.run s.after (later_views s)
  Copies-linked hand n side writes part shows in_hand childless others = Copies-step each
    where
      node : ℕ
      node = suc hand.mark

      -- a word of each node, that of the node in hand seen
      of_node :
          (word : ℕ → Word) → ((m : ℕ) → word m ≢ ChildOf n side) → sees s.then (word node) ≡ s.after (word node) → (m : ℕ)
          → is_linked (run_sizes s.now.run) s.after m ≡ true
          → ((s.after (word m) ≡ s.now.words (word m)) × (is_linked (run_sizes s.now.run) s.now.words m ≡ true))
          ⊎ ((0 < share s.then) × (sees s.then (word m) ≡ s.after (word m)))
      of_node word apart seen m linked =
          elim (cases_eq m node) [
            | inl e ↦ inr (part, subst (λ i. sees s.then (word i) ≡ s.after (word i)) (sym e) seen)
            | inr off ↦ inl (writes.others (word m) (apart m), sym (others m off) ∙ linked)
          ]

      unseen : (right : Bool) → ChildOf node right ≢ ChildOf n side → sees s.then (ChildOf node right) ≡ s.after (ChildOf node right)
      unseen right apart =
          elim (on.behind (ChildOf node right)) [
            | inl none ↦ none ∙ sym (writes.others (ChildOf node right) apart ∙ childless right)
            | inr same ↦ same
          ]

      each : (name : Word) → IsTold s.now.run s.after name → IsToldOn s name
      each Count told = absurd told
      each Best told = absurd told
      each (Counter g) told = inl (writes.others (Counter g) (λ e. cc), told)
      each (PointOf m) told = of_node PointOf (λ i e. cc) (shows.point ∙ sym in_hand.point) m told
      each (TreeOf m) told = of_node TreeOf (λ i e. cc) (shows.tree ∙ sym in_hand.tree) m told
      each (FirstOf m) told = of_node FirstOf (λ i e. cc) (shows.first ∙ sym in_hand.first) m told
      each (RecordOf k) told = inl (writes.others (RecordOf k) (λ e. cc), told)
      each (ChildOf m right) told =
          elim (same_name (ChildOf m right) (ChildOf n side)) [
            | inl e ↦ inr (part, ap (sees s.then) e ∙ shows.child ∙ sym (ap s.after e ∙ writes.here))
            | inr apart ↦ elim (cases_eq m node) [
              | inl e ↦ inr (
                part,
                subst (λ i. ChildOf i right ≢ ChildOf n side → sees s.then (ChildOf i right) ≡ s.after (ChildOf i right)) (sym e) (unseen right) apart,
              )
              | inr off ↦ inl (writes.others (ChildOf m right) apart, sym (others m off) ∙ told)
            ]
          ]

-- ---- one view more

SomeSharer-push :
    {run : SharedRun} {views : List View} {has : View → Type 0} → (more : View) → SomeSharer run views has → SomeSharer run (views ++ more ∷ []) has
SomeSharer-push {run} {views} more copy = record {
  id = copy.id;
  view = copy.view;
  at = at-push views more copy.view copy.id copy.at;
  run_is = copy.run_is;
  part = copy.part;
  same = copy.same;
}

pub BestCopy-push : (run : SharedRun) (words : Words) (views : List View) (more : View) → BestCopy run words views → BestCopy run words (views ++ more ∷ [])
BestCopy-push run words views more = SomeSharer-push more

pub Copies-push : (run : SharedRun) (words : Words) (views : List View) (more : View) → Copies run words views → Copies run words (views ++ more ∷ [])
Copies-push run words views more copies name told = SomeSharer-push more (copies name told)
