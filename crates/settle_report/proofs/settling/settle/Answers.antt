use Rattle.settle_report.proofs.Words.{◌≡◌, suc, ◌+◌, true, false, replicate, set, arith, sym, ap, ◌∙◌, subst, IsPresent, setup_of, state_of_grown}
use Rattle.settle_report.proofs.Words.{words_of_grown, MarksSettled}
use Rattle.settle_report.proofs.HeldOrders.{sum-held}
use Rattle.settle_report.proofs.SettlingSteps.{GrowsInto-cheaper, MarksSettled-start, sum_in-changed}
use Rattle.settle_report.proofs.settling.settle.Goals as goal

pub returns-clause-grows : goal.returns-clause-grows
returns-clause-grows c =
    let old = c.args.grown.now in
    let new = c.settle_all.new.grown in
    let change = c.settle_all.ensures.costs_alone in
    GrowsInto-cheaper (state_of_grown old) (state_of_grown new) change (λ n here.
    let settled = c.settle_all.ensures.settled n (subst (λ points. IsPresent points n) (sym change.points) here) in
    let same = sum_in-changed (state_of_grown old) (state_of_grown new) change n in
    omega (arith, settled, same, sum-held old.task old.limit (words_of_grown old) old.hold_run n here))

pub settle_all-requires-clause-marks : goal.settle_all-requires-clause-marks
settle_all-requires-clause-marks c =
    let grown = c.args.grown.now in
    let start = MarksSettled-start (setup_of grown.task.scene) (state_of_grown grown) grown.hold_run.closed.order grown.limit in
    let none = c.in_ok-settled.ensures.items_if_clones_equal (λ y e. e) in
    let count : c.limit.result + 1 ≡ suc c.args.grown.now.limit = omega (arith, c.limit.ensures) in
    subst (MarksSettled (state_of_grown grown) grown.limit)
    (sym (c.deref_mut.ensures.value ∙ ap (λ marks. set marks 0 true) (none ∙ ap (λ n. replicate n false) count))) start
