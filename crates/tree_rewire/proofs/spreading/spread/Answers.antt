use Rattle.tree_rewire.proofs.Words.{◌≡◌, ◌⊎◌, ◌≤◌, ◌+◌, [], ap, arith, inl, inr, length, refl, subst, sym, ◌∙◌, HasPostedGoals, HasWholeShare, with_lists}
use Rattle.tree_rewire.proofs.Words.{HasSeenParent, IsOn, SharedRun, View, SeesPair, IsSpreading, KeepsParents}
use Rattle.tree_rewire.proofs.CostSteps.{PassLowers-lists, PassLowers-trans}
use Rattle.tree_rewire.proofs.LoweredBelow.{measure_falls}
use Rattle.tree_rewire.proofs.SeenCosts.{pair_low}
use Rattle.tree_rewire.proofs.SpreadCosts.{HasSettledChanges-ends, HasSpread-ends, IsSpreading-begins, IsSpreading-waits}
use Rattle.tree_rewire.proofs.TightCosts.{AllTight-spread}
use Rattle.tree_rewire.proofs.WholeShares.{HasWholeShare-later, KeepsParents-same, KeepsParents-trans}
use Rattle.tree_rewire.proofs.spreading.spread.Goals as goal

pub queue_parent-requires : goal.queue_parent-requires
queue_parent-requires c =
    let view_is = ap (λ p. p.view) c.clear_waiting.ensures.others in
    record {
      low = subst (λ (v : View). c.args.node ≤ length v.run.marks) (sym view_is)
          (pair_low c.args.pass.now.view c.args.node c.requires.belongs.lawful c.requires.pair);
    }

pub falls-init : goal.falls-init
falls-init c =
    let clear = c.clear_waiting.ensures.others ∙ ap (with_lists c.args.pass.now) c.clear_waiting.ensures.waiting in
    let queue = c.queue_parent.ensures.others ∙ ap (with_lists c.clear_waiting.new.self) c.queue_parent.ensures.waiting in
    let old = c.args.pass.now in
    let mid = c.clear_waiting.new.self in
    let new = c.queue_parent.new.self in
    let view_is : mid.view ≡ old.view = ap (λ p. p.view) clear in
    let one = PassLowers-lists c.args.shared.now old mid c.requires.belongs (ap (λ p. p.table) clear) view_is (ap (λ p. p.lists.near) clear)
    (ap (λ p. p.lists.around) clear) (ap (λ p. p.lists.search) clear) in
    let other = PassLowers-lists c.args.shared.now mid new one.belongs (ap (λ p. p.table) queue)
    (ap (λ p. p.view) queue) (ap (λ p. p.lists.near) queue) (ap (λ p. p.lists.around) queue) (ap (λ p. p.lists.search) queue) in
    record {
      steps = PassLowers-trans one other;
      spreads = subst (λ v. IsSpreading c.args.node old.view v (IsOn new.lists.waiting)) (sym (ap (λ p. p.view) queue ∙ view_is))
          (IsSpreading-begins c.args.node old.view new.lists.waiting c.requires.belongs.lawful c.requires.pair
          (λ n own. c.queue_parent.ensures.parent n (subst (λ v. HasSeenParent v c.args.node n) (sym view_is) own))
          (λ n on. subst (λ ns. IsOn ns n ⊎ (n ≡ c.args.node)) (ap (λ p. p.lists.waiting) clear) (c.queue_parent.ensures.only n on)));
      goals = λ all. subst (λ v. HasPostedGoals old.view → HasPostedGoals v) (sym (ap (λ p. p.view) queue ∙ view_is)) (λ posted. posted);
      whole = λ all. subst (KeepsParents old.view) (sym (ap (λ p. p.view) queue ∙ view_is)) (KeepsParents-same old.view old.view (λ name. refl));
    }

pub lower_below-requires-clause-pair : goal.lower_below-requires-clause-pair
lower_below-requires-clause-pair c =
    subst (λ v. SeesPair v c.in-Some.fallen) (sym (ap (λ p. p.view) c.pop_waiting.ensures.others))
    (c.falls.invariant.spreads.pairs c.in-Some.fallen c.in-Some.ensures.was_on)

pub falls-smaller : goal.falls-smaller
falls-smaller c =
    let h = c.falls.invariant in
    let view_is = ap (λ p. p.view) c.pop_waiting.ensures.others in
    let below = c.lower_below.ensures in
    measure_falls (length c.args.pass.now.view.run.marks + 1) c.falls.pass c.pop_waiting.new.self c.lower_below.new.pass view_is c.in-Some.ensures.shorter
    h.steps.sees_anew.goes_on.lawful below.steps.sees_anew.goes_on below.falls below.queued
    (omega (arith, ap (λ (r : SharedRun). length r.marks) h.steps.sees_anew.goes_on.later.run))

pub falls-preserved : goal.falls-preserved
falls-preserved c =
    let h = c.falls.invariant in
    let old = c.args.pass.now in
    let now = c.falls.pass in
    let popped = c.pop_waiting.new.self in
    let new = c.lower_below.new.pass in
    let fallen = c.in-Some.fallen in
    let is = c.pop_waiting.ensures.others ∙ ap (with_lists now) c.pop_waiting.ensures.waiting in
    let view_is = ap (λ p. p.view) is in
    let pop = PassLowers-lists c.args.shared.now now popped h.steps.belongs (ap (λ p. p.table) is) view_is (ap (λ p. p.lists.near) is)
    (ap (λ p. p.lists.around) is) (ap (λ p. p.lists.search) is) in
    record {
      steps = PassLowers-trans h.steps (PassLowers-trans pop c.lower_below.ensures.steps);
      spreads =
          c.lower_below.ensures.spreads c.args.node old.view
          (subst (λ v. IsSpreading c.args.node old.view v (λ p. IsOn popped.lists.waiting p ⊎ (p ≡ fallen))) (sym view_is)
          (IsSpreading-waits c.args.node old.view now.view (IsOn now.lists.waiting) (λ p. IsOn popped.lists.waiting p ⊎ (p ≡ fallen))
          (λ n on. elim (c.in-Some.ensures.keeps n on) [
            | inl still ↦ inl still
            | inr is_it ↦ inr (let same : fallen ≡ n = cc in sym same)
          ])
          (λ n on. elim on [
            | inl still ↦ h.spreads.pairs n (c.pop_waiting.ensures.only n still)
            | inr e ↦ subst (SeesPair now.view) (sym e) (h.spreads.pairs fallen c.in-Some.ensures.was_on)
          ])
          h.spreads));
      goals = λ all posted.
          subst (λ v. HasWholeShare v → HasPostedGoals v → HasPostedGoals new.view) view_is c.lower_below.ensures.goals
          (HasWholeShare-later h.steps.sees_anew all) (h.goals all posted);
      whole = λ all.
          KeepsParents-trans (h.whole all) (subst (λ v. HasWholeShare v → KeepsParents v new.view) view_is c.lower_below.ensures.whole
          (HasWholeShare-later h.steps.sees_anew all));
    }

pub returns : goal.returns
returns c =
    let node = c.args.node in
    let old = c.args.pass.now.view in
    let last = c.falls.pass in
    let new = c.pop_waiting.new.self in
    let h = c.falls.invariant in
    let is = c.pop_waiting.ensures.others ∙ ap (with_lists last) c.pop_waiting.ensures.waiting in
    let view_is = ap (λ p. p.view) is in
    let pops = PassLowers-lists c.args.shared.now last new h.steps.belongs (ap (λ p. p.table) is) view_is (ap (λ p. p.lists.near) is)
    (ap (λ p. p.lists.around) is) (ap (λ p. p.lists.search) is) in
    let steps = PassLowers-trans h.steps pops in
    let goes_on = steps.sees_anew.goes_on in
    -- at last none waits
    let ends = subst (λ v. IsSpreading node old v (IsOn [])) (sym view_is)
    (subst (λ l. IsSpreading node old last.view (IsOn l)) (c.pop_waiting.ensures.none c.in_default.is) h.spreads) in
    let spread = HasSpread-ends node old new.view ends in
    let whole : HasWholeShare old → KeepsParents old new.view = λ all. subst (KeepsParents old) (sym view_is) (h.whole all) in
    record {
      belongs = pops.belongs;
      seen = steps.sees_anew;
      lists = (steps.near, steps.around, steps.search);
      spread = spread;
      settled = HasSettledChanges-ends node old new.view ends;
      goals = λ all posted. subst HasPostedGoals (sym view_is) (h.goals all posted);
      whole = whole;
      whole_tight = λ all tight.
          AllTight-spread node old new.view goes_on.lawful (goes_on.lawful.order (HasWholeShare-later steps.sees_anew all)) goes_on.later (whole all)
          spread tight;
    }
