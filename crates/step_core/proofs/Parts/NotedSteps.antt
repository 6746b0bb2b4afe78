-- What each kind of step notes, and what its view sees then: the parts of the law on notes and on places that were found empty hold after it.
use Rattle.step_core.proofs.Words.{◌≡◌, ◌≢◌, ◌∷◌, ◌∙◌, ◌⊎◌, ℕ, Bool, refl, sym, ap, subst, inl, inr, Word, WritesWord, Best, ChildOf, FirstOf, TreeOf, place_of}
use Rattle.step_core.proofs.Words.{place_of-once, Empties, HasNoted, IsAmong, IsLoaded, IsNoteOf, KnowsAsBefore, Notes, last_seen, steps_by, last_look}
use Rattle.step_core.proofs.Words.{last_zero, run_sizes, sees, Note, View}
use Rattle.step_core.proofs.Seen.Looks.{same_name}
use Rattle.step_core.proofs.Parts.Shifts.{IsShift, Shift, later_views}
use Rattle.step_core.proofs.Parts.WorldNotes.{Empties-step, HasWord-loaded, IsNewNote, IsWrittenTree, LeavesNotes, Notes-step, SeesAsItIs, last_seen-table}

-- Both parts.
pub record KeepsNotes (s : Shift) : Type 0 where
  pub notes : Notes s.now.run s.after (later_views s)
  pub empties : Empties s.now.run s.after (later_views s)

-- Two that saw a word alike, and the best word alike, know as much of it.
pub last_seen-same : (view then : View) (name : Word) → sees then name ≡ sees view name → then.best ≡ view.best → last_seen then name ≡ last_seen view name
last_seen-same view then Best seen best = best
last_seen-same view then name seen best = seen

pub KnowsAsBefore-table : (view then : View) (name : Word) → last_look then name ≡ last_look view name → sees then name ≡ sees view name
    → then.best ≡ view.best → KnowsAsBefore view then name
KnowsAsBefore-table view then name look seen best = (look, last_seen-same view then name seen best)

module _ {s : Shift} (is : IsShift s) where
  -- a view that looks at no word
  pub shown-none : ((name : Word) → last_look s.then name ≡ last_look s.now.view name) → ((name : Word) → sees s.then name ≡ sees s.now.view name)
      → s.then.best ≡ s.now.view.best → (name : Word) → SeesAsItIs s name
  shown-none looks seen best name = inl (KnowsAsBefore-table s.now.view s.then name (looks name) (seen name) best)

  -- one that looks at one, and sees it as it is
  pub shown-one :
      (own : Word) → own ≢ Best → (look x : ℕ) → WritesWord own look (last_look s.now.view) (last_look s.then)
      → WritesWord own x (sees s.now.view) (sees s.then) → s.after own ≡ x → s.then.best ≡ s.now.view.best → (name : Word) → SeesAsItIs s name
  shown-one own off look x looks seen left best name =
      elim (same_name name own) [
        | inl is ↦ inr (subst (λ m. last_seen s.then m ≡ s.after m) (sym is) (last_seen-table s.then own off ∙ seen.here ∙ sym left))
        | inr apart ↦ inl (KnowsAsBefore-table s.now.view s.then name (looks.others name apart) (seen.others name apart) best)
      ]

  -- one that looks at the best word
  pub shown-best :
      (look : ℕ) → WritesWord Best look (last_look s.now.view) (last_look s.then) → ((name : Word) → sees s.then name ≡ sees s.now.view name)
      → s.then.best ≡ s.after Best → (name : Word) → SeesAsItIs s name
  shown-best look looks seen best Best = inr best
  shown-best look looks seen best name = inl (looks.others name (λ e. cc), seen name)

  -- A step that notes nothing, and changes no such word but a tree word that nobody has seen.
  pub LeavesNotes-none :
      s.then.notes ≡ s.now.view.notes → ((name : Word) → IsLoaded s.now.run name → (s.after name ≡ s.now.words name) ⊎ IsWrittenTree s.now.words s.after name)
      → ((n : ℕ) → s.now.words (TreeOf n) ≢ 0 → s.after (FirstOf n) ≡ s.now.words (FirstOf n)) → ((name : Word) → SeesAsItIs s name) → LeavesNotes s
  LeavesNotes-none same words firsts seen = record {
    keeps = λ note has. subst (λ l. IsAmong note l) (sym same) has;
    only = λ note has. inl (subst (λ l. IsAmong note l) same has);
    words = λ name may.
        elim (words name may) [
          | inl stays ↦ inl stays
          | inr tree ↦ inr (inl tree)
        ];
    firsts = firsts;
    sees = λ name may. seen name;
  }

  -- One that changes one such word, and notes it.
  pub LeavesNotes-one :
      (own : Word) → IsLoaded s.now.run own → (x : ℕ) → WritesWord own x s.now.words s.after
      → s.then.notes ≡ record { place = place_of (run_sizes s.now.run) own; word = x; steps = steps_by s.now } ∷ s.now.view.notes
      → ((name : Word) → SeesAsItIs s name) → LeavesNotes s
  LeavesNotes-one own may x writes new seen = record {
    keeps = λ note has. subst (λ l. IsAmong note l) (sym new) (inr has);
    only = λ note has. by_place note (subst (λ l. IsAmong note l) new has);
    words = λ name may_too.
        elim (same_name name own) [
          | inr apart ↦ inl (writes.others name apart)
          | inl is ↦ inr (inr (
            made,
            subst (λ l. IsAmong made l) (sym new) (inl refl),
            ap (place_of (run_sizes s.now.run)) (sym is),
            sym (ap s.after is ∙ writes.here),
          ))
        ];
    firsts = λ n seen_before. writes.others (FirstOf n) (λ is. subst (IsLoaded s.now.run) (sym is) may);
    sees = λ name may_too. seen name;
  }
    where
      made : Note
      made = record { place = place_of (run_sizes s.now.run) own; word = x; steps = steps_by s.now }

      by_place : (note : Note) → IsAmong note (made ∷ s.now.view.notes) → HasNoted s.now.view note ⊎ IsNewNote s note
      by_place note (inr old) = inl old
      by_place note (inl same) =
          inr (
            ap (λ m. m.steps) (sym same),
            λ name may_too of.
                let is : name ≡ own =
                place_of-once (run_sizes s.now.run) name own (HasWord-loaded s.now.run name may_too) (HasWord-loaded s.now.run own may)
                (sym of ∙ ap (λ m. m.place) (sym same)) in
                ap (λ m. m.word) (sym same) ∙ sym (ap s.after is ∙ writes.here),
          )

  -- A step that fills no place of a child, and finds none empty that is filled.
  pub KeepsNotes-kept :
      LeavesNotes s → ((n : ℕ) (side : Bool) → s.after (ChildOf n side) ≡ s.now.words (ChildOf n side))
      → ((n : ℕ) (side : Bool) → s.now.words (ChildOf n side) ≢ 0 → last_zero s.then (ChildOf n side) ≡ last_zero s.now.view (ChildOf n side)) → KeepsNotes s
  KeepsNotes-kept leaves children same = record {
    notes = Notes-step is leaves;
    empties = Empties-step is leaves (λ n side some_child.
        let was : s.now.words (ChildOf n side) ≢ 0 = λ none. some_child (children n side ∙ none) in inl (was, same n side was));
  }

  -- One that fills a place, which it found empty.
  pub KeepsNotes-linked :
      (n : ℕ) (side : Bool) (x : ℕ) → LeavesNotes s → WritesWord (ChildOf n side) x s.now.words s.after
      → (note : Note) → HasNoted s.then note → IsNoteOf s.now.run (ChildOf n side) note → note.steps ≡ steps_by s.now
      → ((m : ℕ) (right : Bool) → ChildOf m right ≢ ChildOf n side → last_zero s.then (ChildOf m right) ≡ last_zero s.now.view (ChildOf m right)) → KeepsNotes s
  KeepsNotes-linked n side x leaves writes note has of by_then others = record {
    notes = Notes-step is leaves;
    empties = Empties-step is leaves (λ m right some_child.
        elim (same_name (ChildOf m right) (ChildOf n side)) [
          | inl same ↦ inr (note, has, of ∙ ap (place_of (run_sizes s.now.run)) (sym same), by_then)
          | inr apart ↦ inl ((λ none. some_child (writes.others (ChildOf m right) apart ∙ none)), others m right apart)
        ]);
  }
