-- A mark in hand, by the view of its pass.
use Rattle.plan_work.proofs.Words.{◌≡◌, ℕ, ◌<◌, Option, Some, None, List, length, refl, sym, ap, ◌∙◌, subst, arith, IfSome, IsSome, slice_index_or, mark_at}
use Rattle.plan_work.proofs.Words.{Point, BelongsTo, PassState, SharedState, IsLawfulView, Hand, SharedRun, View}

-- what is in hand
pub record Holding (view : View) (has : Hand → Type 0) : Type 0 where
  pub hand : Hand
  pub held : view.hand ≡ Some hand
  pub says : has hand

pub holding : (view : View) (has : Hand → Type 0) → IsSome view.hand → IfSome view.hand has → Holding view has
holding view has some says = by_hand view.hand refl some says
  where
    by_hand : (o : Option Hand) → view.hand ≡ o → IsSome o → IfSome o has → Holding view has
    by_hand None e h k = cc
    by_hand (Some hand) e h k = record { hand = hand; held = e; says = k }

-- it is one of the marks
pub mark_low : (view : View) (k : ℕ) → IsLawfulView view → IsSome view.hand → IfSome view.hand (λ hand. hand.mark ≡ k) → k < length view.run.marks
mark_low view k lawful some is =
    let own = holding view (λ hand. hand.mark ≡ k) some is in
    omega (arith, lawful.mark own.hand own.held, own.says)

-- its point, by the task that is shown
pub mark_shown : (shared : SharedState) (pass : PassState) (shown : List Point) (k : ℕ) → BelongsTo pass shared → shown ≡ shared.task.marks
    → slice_index_or shown k (record { x = 0; y = 0 }) ≡ mark_at pass.view.run.marks k
mark_shown shared pass shown k belongs is =
    ap (λ marks. mark_at marks k) is ∙ ap (λ (run : SharedRun). mark_at run.marks k) (sym belongs.run)

-- what is said of the hand, of one that is there
pub if_held : (view : View) (has : Hand → Type 0) (hand : Hand) → view.hand ≡ Some hand → has hand → IfSome view.hand has
if_held view has hand held says = subst (λ o. IfSome o has) (sym held) says

pub of_held : (view : View) (has : Hand → Type 0) (hand : Hand) → view.hand ≡ Some hand → IfSome view.hand has → has hand
of_held view has hand held says = subst (λ o. IfSome o has) held says
