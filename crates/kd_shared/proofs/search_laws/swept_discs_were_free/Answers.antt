use Rattle.kd_shared.proofs.search_laws.swept_discs_were_free.Goals as goal
use Rattle.step_core.proofs.Whole.Histories.{WasFree-swept}

pub returns : goal.returns
returns c = λ run id words last views lasts first end world at come at_end own p bound sweeps q close free.
    WasFree-swept run id words last views lasts first end world at come at_end own q (sweeps q close free)
