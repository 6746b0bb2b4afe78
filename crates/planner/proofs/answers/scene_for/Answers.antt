use Rattle.planner.proofs.Words.{refl, ap, IsCaused, reads_bytes}
use Rattle.planner.proofs.Causes.{fetch-caused, IfErr-only}
use Rattle.planner.proofs.answers.scene_for.Goals as goal

pub returns-in_err-text-clause-refusal : goal.returns-in_err-text-clause-refusal
returns-in_err-text-clause-refusal g c =
    let before = g.S.Source.state c.args.source.now in
    let now = g.S.Source.state c.fetch.new.source in
    let fetched = c.in_err-text.ensures in
    IfErr-only c.from_residual.result _ (IsCaused _ before now) c.from_residual.ensures.1
    (fetch-caused c.args.command before now _ c.in_err-text.field-0.0 refl (ap reads_bytes c.requires.reads) fetched.no_end fetched.came
    fetched.read fetched.one_fault fetched.no_fault)
