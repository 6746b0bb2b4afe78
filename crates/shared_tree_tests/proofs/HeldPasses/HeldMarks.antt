-- A mark stays in hand while its pass looks, and when its node is linked.
use Rattle.shared_tree_tests.proofs.Words.{◌≡◌, ℕ, Bool, refl, ap, ◌∙◌, Err, IfErr, IfOk, IfSome, Ok, Result, GoesOn, HasLinked, PassState, SharedState}
use Rattle.shared_tree_tests.proofs.Words.{with_view, BelongsTo-later, at_hand, loaded, ChildOf, Stage, Counted, Treed, View, HoldsMark}

pub HoldsMark-kept :
    (shared : SharedState) (k : ℕ) (stage : Stage) (before after : PassState) (view : View) → after ≡ with_view before view → view.hand ≡ before.view.hand
    → GoesOn before.view after.view → HoldsMark shared k stage before → HoldsMark shared k stage after
HoldsMark-kept shared k stage before after view is same goes_on holds = record {
  belongs = BelongsTo-later shared before after (ap (λ (p : PassState). p.table) is) goes_on holds.belongs;
  hand = holds.hand;
  held = ap (λ (p : PassState). p.view.hand) is ∙ same ∙ holds.held;
  mark = holds.mark;
  stage_is = holds.stage_is;
  from_start = holds.from_start;
}

pub HoldsMark-linked :
    {A : Type 0} (shared : SharedState) (k n : ℕ) (side : Bool) (before after : PassState) (result : Result A ℕ)
    → HoldsMark shared k Treed before → GoesOn before.view after.view
    → IfOk result (λ _. IfSome before.view.hand (HasLinked before after n side))
    → IfOk result (λ _. HoldsMark shared k Counted after)
HoldsMark-linked shared k n side before after (Err c) holds goes_on is = tt
HoldsMark-linked shared k n side before after (Ok u) holds goes_on is =
    let done = at_hand (HasLinked before after n side) before.view.hand holds.hand holds.held is in
    record {
      belongs = BelongsTo-later shared before after (ap (λ (p : PassState). p.table) done) goes_on holds.belongs;
      hand = record holds.hand { stage = Counted };
      held = ap (λ (p : PassState). p.view.hand) done;
      mark = holds.mark;
      stage_is = refl;
      from_start = holds.from_start;
    }

pub HoldsMark-unlinked :
    {A : Type 0} (shared : SharedState) (k n : ℕ) (side : Bool) (before after : PassState) (result : Result A ℕ)
    → HoldsMark shared k Treed before → GoesOn before.view after.view
    → IfErr result (λ c. after ≡ with_view before (loaded before.view (ChildOf n side) c)) → IfErr result (λ c. HoldsMark shared k Treed after)
HoldsMark-unlinked shared k n side before after (Ok u) holds goes_on is = tt
HoldsMark-unlinked shared k n side before after (Err c) holds goes_on is = HoldsMark-kept shared k Treed before after _ is refl goes_on holds
