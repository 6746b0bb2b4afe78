use Rattle.plan_work.proofs.extension_laws.worked_marks_were_extended.Goals as goal

pub returns : goal.returns
returns c = λ before after extended k none some.
    let was = extended k none some in (was.entry, was.begun, was.ended, was.since, was.until, was.extended, was.kept)
