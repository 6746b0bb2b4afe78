-- What loads leave of a pass: all but what it sees of the loaded words.
use Rattle.kd_shared.proofs.Words.{◌≡◌, ℕ, ◌+◌, Bool, sym, ap, ◌∙◌, subst, HasLooked-loaded, SeesAsBefore, NamesChildOrPoint, BelongsTo, GoesOn, HasWholeShare}
use Rattle.kd_shared.proofs.Words.{PassState, SharedState, with_view, BelongsTo-later, HasLooked, last_look, loaded, SeesNode, sees, WritesWord-saw}
use Rattle.kd_shared.proofs.Words.{ChangesOnly, Word, WritesWord, ChildOf, PassLooks}
use Rattle.kd_shared.proofs.Looking.{OnlyLooks-loaded, same_words}

-- one step that shows no word but that of a child or of a point
pub PassLooks-step : (shared : SharedState) (before after : PassState) (name : Word) (word : ℕ) → BelongsTo before shared
    → after ≡ with_view before (loaded before.view name word) → GoesOn before.view after.view
    → ChangesOnly NamesChildOrPoint (sees before.view) (sees after.view) → HasLooked before.view after.view
    → (HasWholeShare before.view → SeesAsBefore before.view after.view) → PassLooks shared before after
PassLooks-step shared before after name word belongs is goes_on others looked whole =
    let view_is : after.view ≡ loaded before.view name word = ap (λ (p : PassState). p.view) is in
    record {
      belongs = BelongsTo-later shared before after (ap (λ (p : PassState). p.table) is) goes_on belongs;
      looks = OnlyLooks-loaded before.view after.view name word view_is goes_on others looked whole;
      view_alone = is ∙ ap (with_view before) (sym view_is);
    }

-- one load of it
pub PassLooks-load : (shared : SharedState) (before after : PassState) (name : Word) (word value : ℕ) → BelongsTo before shared → NamesChildOrPoint name
    → after ≡ with_view before (loaded before.view name word) → GoesOn before.view after.view → WritesWord name value (sees before.view) (sees after.view)
    → WritesWord name (before.view.steps + 1) (last_look before.view) (last_look after.view) → (HasWholeShare before.view → value ≡ sees before.view name)
    → PassLooks shared before after
PassLooks-load shared before after name word value belongs node is goes_on writes looked whole =
    PassLooks-step shared before after name word belongs is goes_on
    (λ other k. writes.others other (λ same. k (subst NamesChildOrPoint (sym same) node)))
    (HasLooked-loaded before.view after.view name value writes looked (ap (λ (p : PassState). p.view.best) is))
    (λ all. same_words (sees before.view) (sees after.view) name value writes (whole all))

-- one try of a link that met a child
pub PassLooks-met : (shared : SharedState) (before after : PassState) (n : ℕ) (side : Bool) (word : ℕ) → BelongsTo before shared → SeesNode before.view n
    → after ≡ with_view before (loaded before.view (ChildOf n side) word) → GoesOn before.view after.view
    → ChangesOnly NamesChildOrPoint (sees before.view) (sees after.view)
    → WritesWord (ChildOf n side) (before.view.steps + 1) (last_look before.view) (last_look after.view)
    → (HasWholeShare before.view → word ≡ sees before.view (ChildOf n side)) → PassLooks shared before after
PassLooks-met shared before after n side word belongs seen is goes_on others looked whole =
    let lawful = goes_on.was_lawful in
    let name : Word = ChildOf n side in
    let writes = subst (λ v. WritesWord name word (sees before.view) (sees v)) (sym (ap (λ (p : PassState). p.view) is))
    (WritesWord-saw before.view.run before.view lawful.of_run name (lawful.within n seen) word word) in
    PassLooks-step shared before after name word belongs is goes_on others
    (HasLooked-loaded before.view after.view name word writes looked (ap (λ (p : PassState). p.view.best) is))
    (λ all. same_words (sees before.view) (sees after.view) name word writes (whole all))
