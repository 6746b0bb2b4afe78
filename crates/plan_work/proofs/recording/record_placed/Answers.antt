use Rattle.plan_work.proofs.Words.{◌≡◌, suc, true, refl, sym, subst, IfSome, Record-from_fields, FirstOf, own_placed, MayRecord, has_count, pair_in_hand, sees}
use Rattle.plan_work.proofs.HeldMarks.{of_held}
use Rattle.plan_work.proofs.RecordedMarks.{HasRecorded-finished, IsFirstWord-placed}
use Rattle.plan_work.proofs.recording.record_placed.Goals as goal

pub finish-requires-clause-may : goal.finish-requires-clause-may
finish-requires-clause-may c =
    subst (λ entry. IfSome c.args.pass.now.view.hand (λ hand. MayRecord c.args.pass.now.view hand entry))
    (sym (Record-from_fields _ (own_placed c.args.pass.now.view c.args.nearest c.args.hanging) record {
      worker = c.worker.ensures.number;
      turn = c.turn.ensures.number;
      nearest = refl;
      outcome = refl;
      first_parent = refl;
      first_cost = refl;
      class = refl;
    }))
    c.requires.may

pub returns-clause-entry : goal.returns-clause-entry
returns-clause-entry c =
    Record-from_fields _ (own_placed c.args.pass.now.view c.args.nearest c.args.hanging) record {
      worker = c.worker.ensures.number;
      turn = c.turn.ensures.number;
      nearest = refl;
      outcome = refl;
      first_parent = refl;
      first_cost = refl;
      class = refl;
    }

pub returns-clause-recorded : goal.returns-clause-recorded
returns-clause-recorded c =
    let before = c.args.pass.now in
    let own = own_placed before.view c.args.nearest c.args.hanging in
    HasRecorded-finished c.args.shared.now before c.finish.new.pass _ own (returns-clause-entry c) c.finish.ensures.may_claim c.finish.ensures.goes_on
    c.finish.ensures.view refl refl c.requires.may
    (λ hand held.
    IsFirstWord-placed before.view hand own c.finish.ensures.goes_on.was_lawful held
    (of_held before.view (λ h. has_count h.stage ≡ true) hand held c.requires.counted)
    refl (of_held before.view (λ h. MayRecord before.view h own) hand held c.requires.may) (sees before.view (FirstOf (suc hand.mark)))
    (of_held before.view (λ h. sees before.view (FirstOf (suc h.mark)) ≡ pair_in_hand h) hand held c.requires.first))
