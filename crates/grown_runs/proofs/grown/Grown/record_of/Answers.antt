use Rattle.grown_runs.proofs.Words.{sym, ap, ◌∙◌, is_some}
use Rattle.grown_runs.proofs.grown.Grown.record_of.Goals as goal

pub unwrap-requires : goal.unwrap-requires
unwrap-requires c =
    let grown = c.args.self.now in
    ap is_some c.record_at.ensures ∙ grown.hold_run.closed.records.recorded c.args.mark c.requires

pub returns : goal.returns
returns c = sym c.record_at.ensures ∙ c.unwrap.ensures
