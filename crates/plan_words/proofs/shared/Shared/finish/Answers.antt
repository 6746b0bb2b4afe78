use Rattle.plan_words.proofs.Words.{◌<◌, arith, length, refl, ap, subst, sym, ◌∙◌, turn_of, turned, worker_of, IfSome, finished, finished_at, MayRecord}
use Rattle.plan_words.proofs.Words.{MayBeRecorded, RecordOf, place_of, record_word}
use Rattle.plan_words.proofs.KeptPairs.{HasPairs-finished, keeps_view, turned-first}
use Rattle.plan_words.proofs.HandSteps.{at_hand}
use Rattle.plan_words.proofs.LookedNodes.{place_here}
use Rattle.plan_words.proofs.Allowing.{may_finish}
use Rattle.plan_words.proofs.Owning.{goes_on_told, in_table, same_run, same_table}
use Rattle.plan_words.proofs.Tying.{HasMember-held, MayClaim-finished, entry_fits, turn_fits}
use Rattle.plan_words.proofs.ToldHands.{none_held, with_view_told_hand}
use Rattle.plan_words.proofs.shared.Shared.finish.Goals as goal

pub unreachable-requires : goal.unreachable-requires
unreachable-requires c = none_held _ _ _ c.pass.view_is c.pass.invariant.1.hand_is c.in_default.is c.requires.hand

pub overflow_cast-hand : goal.overflow_cast-hand
overflow_cast-hand c =
    let lawful = c.pass.invariant.1.lawful in
    omega (arith, lawful.mark c.in-Some.hand (sym c.pass.invariant.1.hand_is ∙ c.in-Some.is), lawful.run.marks)

pub record-place-requires : goal.record-place-requires
record-place-requires c =
    let own = same_run _ _ _ _ c.pass.view_is c.self.view_is c.requires.belongs in
    let low = c.pass.invariant.1.lawful.mark c.in-Some.hand (sym c.pass.invariant.1.hand_is ∙ c.in-Some.is) in
    let here = subst (λ s. c.in-Some.hand.mark < s.marks) (sym c.self.invariant.places_are) (subst (λ r. c.in-Some.hand.mark < length r.marks) own low) in
    omega (arith, here)

pub pack_mark-word-requires : goal.pack_mark-word-requires
pack_mark-word-requires c =
    let tied = c.pass.invariant.1 in
    let held = sym tied.hand_is ∙ c.in-Some.is in
    let may = at_hand (λ h. MayRecord c.pass.inside.seat.me.0 h c.args.entry) _ c.in-Some.hand held
    (subst (λ p. IfSome p.view.hand (λ h. MayRecord p.view h c.args.entry)) (sym c.pass.view_is) c.requires.may) in
    entry_fits _ c.in-Some.hand _ tied.lawful held (c.requires.worker ∙ sym (ap (λ p. worker_of p.view.crew) c.pass.view_is))
    (c.requires.turn ∙ sym (ap (λ p. turn_of p.view.crew) c.pass.view_is)) may

pub store-requires : goal.store-requires
store-requires c =
    let same = same_table _ _ _ _ c.pass.view_is c.self.view_is c.requires.belongs in
    let own = same_run _ _ _ _ c.pass.view_is c.self.view_is c.requires.belongs in
    let tied = c.pass.invariant.1 in
    let held = sym tied.hand_is ∙ c.in-Some.is in
    let has = HasMember-held _ _ tied.lawful held in
    let by = c.requires.worker ∙ sym (ap (λ p. worker_of p.view.crew) c.pass.view_is) in
    let at = c.requires.turn ∙ sym (ap (λ p. turn_of p.view.crew) c.pass.view_is) in
    let may = at_hand (λ h. MayRecord c.pass.inside.seat.me.0 h c.args.entry) _ c.in-Some.hand held
    (subst (λ p. IfSome p.view.hand (λ h. MayRecord p.view h c.args.entry)) (sym c.pass.view_is) c.requires.may) in
    let fits = entry_fits _ c.in-Some.hand _ tied.lawful held by at may in
    let place = c.record-place.ensures ∙ ap (λ sizes. place_of sizes (RecordOf c.in-Some.hand.mark)) c.self.invariant.places_are in
    let low = subst (λ r. c.in-Some.hand.mark < length r.marks) own (tied.lawful.mark c.in-Some.hand held) in
    let stage = subst (λ o. IfSome o (λ hand. MayBeRecorded hand.stage c.args.entry.outcome))
    (ap (λ p. p.view.hand) (sym c.pass.view_is) ∙ held) c.requires.stage in (
      same,
      in_table _ _ _ _ c.self.invariant (RecordOf c.in-Some.hand.mark) _ low place,
      may_finish _ _ _ _ c.self.invariant _ _ _ _ _ c.in-Some.hand has.member has.crew c.args.entry place own held has.crew_is fits
          (by ∙ ap worker_of has.crew_is) (at ∙ ap turn_of has.crew_is) stage may c.pack_mark-word.ensures,
    )

pub next_turn-pass-inside-requires : goal.next_turn-pass-inside-requires
next_turn-pass-inside-requires c =
    let tied = c.pass.invariant.1 in
    turn_fits _ c.in-Some.hand _ tied.lawful (sym tied.hand_is ∙ c.in-Some.is) tied.member_is

pub invariant_of-pass : goal.invariant_of-pass
invariant_of-pass c =
    let own = same_run _ _ _ _ c.pass.view_is c.self.view_is c.requires.belongs in
    let me = c.pass.inside.seat.me in
    let tied = c.pass.invariant.1 in
    let hand = c.in-Some.hand in
    let held = sym tied.hand_is ∙ c.in-Some.is in
    let place = place_here c.self.inside.places _ me.0 (RecordOf hand.mark) _ c.self.invariant.places_are own c.record-place.ensures in
    keeps_view me c.store.new.seat.me (finished_at me.0 c.record-place.result c.pack_mark-word.result) _ _ _ _ _ _ _ _ c.pass.inside.pairs _ c.store.ensures.2
    c.pass.invariant refl (c.next_turn-pass-inside.ensures ∙ ap turned tied.member_is ∙ turned-first me.0.crew) refl
    (HasPairs-finished me.0 c.pass.inside.pairs hand.mark _ _ tied.lawful (tied.lawful.mark hand held) place)

pub returns-clause-view : goal.returns-clause-view
returns-clause-view c =
    let own = same_run _ _ _ _ c.pass.view_is c.self.view_is c.requires.belongs in
    let view = c.pass.inside.seat.me.0 in
    let hand = c.in-Some.hand in
    let place = place_here c.self.inside.places _ view (RecordOf hand.mark) _ c.self.invariant.places_are own c.record-place.ensures in
    with_view_told_hand _ _ hand _ c.store.new.seat.me.0 (λ v h. finished v h.mark (record_word c.args.entry)) c.pass.view_is
    (sym c.pass.invariant.1.hand_is ∙ c.in-Some.is) c.store.ensures.0
    (c.store.ensures.2.view_is ∙ ap (λ n. finished_at view n c.pack_mark-word.result) place ∙ ap (finished view hand.mark) c.pack_mark-word.ensures)

pub returns-clause-goes_on : goal.returns-clause-goes_on
returns-clause-goes_on c = goes_on_told _ _ _ _ c.pass.view_is c.store.ensures.2.view_is c.store.ensures.2.goes_on

pub returns-clause-may_claim : goal.returns-clause-may_claim
returns-clause-may_claim c =
    let place = c.record-place.result in
    let word = c.pack_mark-word.result in
    MayClaim-finished c.args.self.now c.args.pass.now _ place word c.in-Some.hand c.requires.belongs
    (ap (λ p. p.view.hand) (sym c.pass.view_is) ∙ sym c.pass.invariant.1.hand_is ∙ c.in-Some.is) (c.store.ensures.0 ∙ ap (λ p. p.table) c.pass.view_is)
    (returns-clause-goes_on c) (c.store.ensures.2.view_is ∙ ap (λ p. finished_at p.view place word) c.pass.view_is)
