use Rattle.grown_runs.proofs.Words.{sym, subst, IsClosed, setup_of, IsClosed-same_run, state_of_grown, state_of_lists}
use Rattle.grown_runs.proofs.word_laws.runs_may_be_packed_again.Goals as goal

pub returns-clause-closed : goal.returns-clause-closed
returns-clause-closed c = λ grown. grown.hold_run.closed

pub returns-clause-again : goal.returns-clause-again
returns-clause-again c = λ grown knots records same long.
    subst (λ limit. IsClosed (setup_of grown.task.scene) grown.task.marks limit (state_of_lists knots records)) (sym long)
    (IsClosed-same_run (setup_of grown.task.scene) grown.task.marks grown.limit (state_of_grown grown) (state_of_lists knots records)
    grown.hold_run.closed same)
