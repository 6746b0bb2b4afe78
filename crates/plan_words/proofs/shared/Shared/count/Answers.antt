use Rattle.plan_words.proofs.Words.{Count, ◌≡◌, Some, ap, refl, subst, sym, ◌∙◌, IfSome, counted, last_note, note_before, Linked}
use Rattle.plan_words.proofs.HandSteps.{at_hand}
use Rattle.plan_words.proofs.KeptPairs.{keeps_hand}
use Rattle.plan_words.proofs.Allowing.{may_count}
use Rattle.plan_words.proofs.Owning.{in_table, same_run, same_table}
use Rattle.plan_words.proofs.ToldHands.{none_held}
use Rattle.plan_words.proofs.shared.Shared.count.Goals as goal

pub unreachable-requires : goal.unreachable-requires
unreachable-requires c = none_held _ _ _ c.pass.view_is c.pass.invariant.1.hand_is c.in_default.is c.requires.hand

pub fetch_add-count-requires : goal.fetch_add-count-requires
fetch_add-count-requires c =
    let same = same_table _ _ _ _ c.pass.view_is c.self.view_is c.requires.belongs in
    let own = same_run _ _ _ _ c.pass.view_is c.self.view_is c.requires.belongs in
    let hand = c.in-Some.hand in
    let held = sym c.pass.invariant.1.hand_is ∙ c.in-Some.is in
    let stage = at_hand (λ h. h.stage ≡ Linked) _ hand held
    (subst (λ p. IfSome p.view.hand (λ h. h.stage ≡ Linked)) (sym c.pass.view_is) c.requires.linked) in (
      same,
      in_table _ _ _ _ c.self.invariant Count _ tt c.count.ensures,
      may_count _ _ _ _ c.self.invariant _ _ _ _ hand c.count.ensures own held stage,
    )

pub invariant_of-pass : goal.invariant_of-pass
invariant_of-pass c =
    let hand = c.in-Some.hand in
    let held = sym c.pass.invariant.1.hand_is ∙ c.in-Some.is in
    let me = c.pass.inside.seat.me in
    let after = c.fetch_add-count.new.seat.me in
    keeps_hand me after (counted me.0 hand (note_before after.0 0).word (last_note after.0)) _ _ c.at_stage.result _ _ _ _ _
    (c.fetch_add-count.ensures.2 hand held) c.pass.invariant refl refl (ap Some (sym c.at_stage.ensures)) (λ n. refl)
