use Rattle.any_time.proofs.Words.{take, IsSettled-of_textbook, setup_of, state_of_grown, IsOfTextbook-new}
use Rattle.any_time.proofs.sessions.fresh_run.Goals as goal

pub returns-clause-textbook : goal.returns-clause-textbook
returns-clause-textbook c =
    IsOfTextbook-new c.args.task c.in_ok-fresh.fresh c.in_ok-fresh.ensures.task c.in_ok-fresh.ensures.limit c.in_ok-fresh.ensures.state

pub returns-clause-settled : goal.returns-clause-settled
returns-clause-settled c =
    let fresh = c.in_ok-fresh.fresh in
    IsSettled-of_textbook (setup_of fresh.task.scene) (take fresh.limit fresh.task.marks) (state_of_grown fresh)
    fresh.hold_run.closed.order.start_clear
    (IsOfTextbook-new c.args.task fresh c.in_ok-fresh.ensures.task c.in_ok-fresh.ensures.limit c.in_ok-fresh.ensures.state)
