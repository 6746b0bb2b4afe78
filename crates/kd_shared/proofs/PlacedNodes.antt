-- The node in hand is linked where the walk along the way of its point has come to, or it stays in hand.
use Rattle.kd_shared.proofs.Words.{◌≡◌, ℕ, suc, ◌+◌, Bool, Option, Some, None, inl, sym, ap, ◌∙◌, subst, arith, IfSome, IsSome, Point, ChangesOnly, Best}
use Rattle.kd_shared.proofs.Words.{IsBounded, IsBounded-hand, IsLawfulView, Treed, has_point}
use Rattle.kd_shared.proofs.Words.{ChildOf, Count, WritesWord, IsLinkedAt, LeadsOn, NamesNode, BelongsTo, GoesOn, PassState, SharedState, with_view}
use Rattle.kd_shared.proofs.Words.{BelongsTo-later, GoesOn-trans, HasLinked, NamesNode-child, SeesBestSince-trans, last_look, note_before, place_in, LeadsTo}
use Rattle.kd_shared.proofs.Words.{sees, Hand, View, OnlyLooks, PassLooks, GoesOnPlacing, IsPlaced, KeepsShare, WasLinkedSince}

-- the hand of a pass that only looked
pub IfSome-kept : (before after : View) (Holds : Hand → Type 0) → OnlyLooks before after → IfSome before.hand Holds → IfSome after.hand Holds
IfSome-kept before after Holds looks = subst (λ o. IfSome o Holds) (sym looks.kept.hand)

-- the point in a hand that is treed is one whose distances fit
pub IsBounded-held : (view : View) (p : Point) → IsLawfulView view → (held : Option Hand) → view.hand ≡ held → IsSome held
    → IfSome held (λ hand. p ≡ hand.point) → IfSome held (λ hand. hand.stage ≡ Treed) → IsBounded p
IsBounded-held view p lawful None is some at treed = cc
IsBounded-held view p lawful (Some hand) is some at treed = subst IsBounded (sym at) (IsBounded-hand view hand lawful is (ap has_point treed))

-- the way of the point in hand leads where that of p does
pub IfSome-leads : (now : View) (p : Point) (n : ℕ) (side : Bool) (held : Option Hand) → IfSome held (λ hand. p ≡ hand.point) → LeadsTo now p n side
    → IfSome held (λ hand. LeadsTo now hand.point n side)
IfSome-leads now p n side None is leads = tt
IfSome-leads now p n side (Some hand) is leads = subst (λ q. LeadsTo now q n side) is leads

-- or the node in hand is linked
pub IfSome-placed : (now after : View) (p : Point) (n : ℕ) (side : Bool) (held : Option Hand) → now.hand ≡ held
    → IfSome held (λ hand. p ≡ hand.point) → IfSome now.hand (λ hand. IsLinkedAt after n side hand)
    → IfSome now.hand (λ hand. LeadsOn now after hand.point n side (suc hand.mark)) → LeadsTo now p n side → IfSome held (λ hand. IsPlaced after hand)
IfSome-placed now after p n side None kept is links leads_on leads = tt
IfSome-placed now after p n side (Some hand) kept is links leads_on leads =
    let link : IsLinkedAt after n side hand = subst (λ o. IfSome o (λ h. IsLinkedAt after n side h)) kept links in
    let leads_own : LeadsTo now hand.point n side = subst (λ q. LeadsTo now q n side) is leads in
    let on : LeadsOn now after hand.point n side (suc hand.mark) = subst (λ o. IfSome o (λ h. LeadsOn now after h.point n side (suc h.mark))) kept leads_on in
    record {
      depth = suc leads_own.depth;
      on_way = on leads_own;
      stands = link.point;
      pair = link.pair;
      first = link.first;
      counted = link.counted;
    }

-- by the last two steps
pub IfSome-since : (before : View) (mid after : PassState) (n : ℕ) (side : Bool) (held : Option Hand) → GoesOn before mid.view → mid.view.hand ≡ held
    → IfSome mid.view.hand (λ hand. IsLinkedAt after.view n side hand)
    → WritesWord (ChildOf n side) (mid.view.steps + 1) (last_look mid.view) (last_look after.view)
    → IfSome mid.view.hand (HasLinked mid after n side)
    → IfSome held (λ hand. WasLinkedSince before after.view hand)
IfSome-since before mid after n side None goes_on kept links looked is = tt
IfSome-since before mid after n side (Some hand) goes_on kept links looked is =
    let link : IsLinkedAt after.view n side hand = subst (λ o. IfSome o (λ h. IsLinkedAt after.view n side h)) kept links in
    let made : HasLinked mid after n side hand = subst (λ o. IfSome o (HasLinked mid after n side)) kept is in
    let steps : after.view.steps ≡ mid.view.steps + 1 + 1 = ap (λ (p : PassState). p.view.steps) made in
    record {
      above = n;
      side = side;
      child = link.child;
      looked = omega (arith, looked.here, goes_on.later.steps);
      last = omega (arith, looked.here, steps);
      counted = ap (λ (p : PassState). (note_before p.view 0).place) made ∙ sym (ap (λ (p : PassState). place_in p.view Count) made);
    }

-- ---- what it leaves

-- A pass of this tree has placed its node: share and limit stay, and nothing but its view changes.
pub record PassPlaces (shared : SharedState) (before after : PassState) : Type 0 where
  pub belongs : BelongsTo after shared
  pub goes_on : GoesOnPlacing before.view after.view
  pub share : KeepsShare before.view after.view
  pub view_alone : after ≡ with_view before after.view

pub PassPlaces-looks : (shared : SharedState) (before mid after : PassState) → PassLooks shared before mid → PassPlaces shared mid after
    → PassPlaces shared before after
PassPlaces-looks shared before mid after one other = record {
  belongs = other.belongs;
  goes_on = record {
    goes_on = GoesOn-trans before.view mid.view after.view one.looks.looks.goes_on other.goes_on.goes_on;
    others = λ name off. other.goes_on.others name off ∙ one.looks.looks.others name (λ h. off (NamesNode-child name h));
    best =
        SeesBestSince-trans before.view mid.view after.view one.looks.looks.goes_on other.goes_on.goes_on (one.looks.looked Best)
        other.goes_on.best;
  };
  share = record { crew = other.share.crew ∙ one.looks.kept.crew; most = other.share.most ∙ one.looks.kept.most };
  view_alone = other.view_alone ∙ ap (λ p. with_view p after.view) one.view_alone;
}

pub PassPlaces-links : (shared : SharedState) (before after : PassState) (n : ℕ) (side : Bool) → BelongsTo before shared → IsSome before.view.hand
    → IfSome before.view.hand (HasLinked before after n side)
    → GoesOn before.view after.view
    → ChangesOnly NamesNode (sees before.view) (sees after.view) → PassPlaces shared before after
PassPlaces-links shared before after n side belongs held view goes_on others = by_hand before.view.hand held view
  where
    by_hand : (o : Option Hand) → IsSome o → IfSome o (HasLinked before after n side)
        → PassPlaces shared before after
    by_hand None none is = cc
    by_hand (Some hand) some_hand is =
        let made : HasLinked before after n side hand = is in
        let view_is = ap (λ (p : PassState). p.view) made in
        record {
          belongs = BelongsTo-later shared before after (ap (λ (p : PassState). p.table) is) goes_on belongs;
          goes_on = record { goes_on = goes_on; others = others; best = inl (ap (λ (v : View). v.best) view_is) };
          share = record { crew = ap (λ (v : View). v.crew) view_is; most = ap (λ (v : View). v.most) view_is };
          view_alone = made ∙ ap (with_view before) (sym view_is);
        }
