-- A pass with a mark in its hand. A step for the mark leaves it but for its view.
use Rattle.plan_words.proofs.Words.{◌≡◌, Option, Some, None, refl, sym, ap, ◌∙◌, subst, IfSome, IsSome, is_some, TableId, PassState, with_view, Hand, View}
use Rattle.plan_words.proofs.Owning.{with_view_told}

pub with_view_told_hand :
    (outer inner : PassState) (hand : Hand) (table : TableId) (then : View) (step : View → Hand → View) → inner ≡ outer → inner.view.hand ≡ Some hand
    → table ≡ inner.table → then ≡ step inner.view hand
    → IfSome outer.view.hand (λ h. record inner { table = table; view = then } ≡ with_view outer (step outer.view h))
with_view_told_hand outer inner hand table then step same held table_is view_is =
    subst (λ p. IfSome p.view.hand (λ h. record inner { table = table; view = then } ≡ with_view p (step p.view h))) same
    (subst (λ o. IfSome o (λ h. record inner { table = table; view = then } ≡ with_view inner (step inner.view h))) (sym held)
    (with_view_told inner inner table then (λ v. step v hand) refl table_is view_is))

-- it does not keep none
pub none_held : (outer inner : PassState) (kept : Option Hand) → inner ≡ outer → kept ≡ inner.view.hand → kept ≡ None → IsSome outer.view.hand → ⊥
none_held outer inner kept same hand_is none held =
    let clash = sym (ap is_some (sym hand_is ∙ none)) ∙ subst (λ p. IsSome p.view.hand) (sym same) held in
    cc
