use Rattle.plan_work.proofs.Words.{◌≡◌, refl, ◌∙◌, unplaced_record, own_unplaced}
use Rattle.plan_work.proofs.RecordedMarks.{HasRecorded-finished, IsFirstWord-unplaced}
use Rattle.plan_work.proofs.recording.record_unplaced.Goals as goal

pub returns-clause-recorded : goal.returns-clause-recorded
returns-clause-recorded c =
    let before = c.args.pass.now in
    let own = own_unplaced before.view c.args.nearest c.args.outcome in
    let same : c.unplaced-entry.result ≡ own =
    c.unplaced-entry.ensures ∙ (λ t. unplaced_record (c.worker.ensures.number t) (c.turn.ensures.number t) c.args.nearest c.args.outcome) in
    HasRecorded-finished c.args.shared.now before c.finish.new.pass c.unplaced-entry.result own same c.finish.ensures.may_claim c.finish.ensures.goes_on
    c.finish.ensures.view refl refl c.requires.may (λ hand held. IsFirstWord-unplaced before.view c.args.nearest c.args.outcome _ c.requires.unplaced)
