use Rattle.planner.proofs.Words.{refl, ap, subst, List, ℕ, IsCaused, reads_bytes, IsBatchRefusal}
use Rattle.planner.proofs.Causes.{IsReadWhole-fetched, fetch-caused, IfErr-only}
use Rattle.planner.proofs.GivenBatches.{read_batch-caused}
use Rattle.planner.proofs.batches.scenes_for.Goals as goal

pub returns-in_err-text-clause-refusal : goal.returns-in_err-text-clause-refusal
returns-in_err-text-clause-refusal g c =
    let before = g.S.Source.state c.args.source.now in
    let now = g.S.Source.state c.fetch.new.source in
    let fetched = c.in_err-text.ensures in
    IfErr-only c.from_residual.result _ (IsCaused _ before now) c.from_residual.ensures.1
    (fetch-caused c.args.command before now _ c.in_err-text.field-0.0 refl (ap reads_bytes c.requires.reads) fetched.no_end fetched.came
    fetched.read fetched.one_fault fetched.no_fault)

pub returns-in_err-scenes-clause-refusal : goal.returns-in_err-scenes-clause-refusal
returns-in_err-scenes-clause-refusal g c =
    let before = g.S.Source.state c.args.source.now in
    let now = g.S.Source.state c.fetch.new.source in
    let fetched = c.in_ok-text.ensures in
    let refusal = c.in_err-scenes.field-0.0 in
    let whole = IsReadWhole-fetched before now c.in_ok-text.text fetched.end fetched.bytes fetched.none_left fetched.no_fault in
    let refused = subst (λ (bytes : List ℕ). IsBatchRefusal bytes refusal) c.deref.ensures.value c.in_err-scenes.ensures.fault in
    IfErr-only c.from_residual-in_err-scenes.result _ (IsCaused _ before now) c.from_residual-in_err-scenes.ensures.1
    (read_batch-caused c.args.command before now c.in_ok-text.text.items refusal c.requires.reads whole fetched.small refused)
