use Rattle.twin_trees.proofs.Words.{sym, ◌∙◌, IfOk-weaker}
use Rattle.twin_trees.proofs.TurnedRuns.{ClearAt-turned, space-turned}
use Rattle.twin_trees.proofs.growing.turned_run.Goals as goal

pub whole_run-requires-clause-hall : goal.whole_run-requires-clause-hall
whole_run-requires-clause-hall g c κs within =
    c.requires.hall ∙ sym (space-turned c.args.task.now.scene c.in_ok-turned.turned.scene c.in_ok-turned.ensures.scene)

pub whole_run-requires-clause-start : goal.whole_run-requires-clause-start
whole_run-requires-clause-start g c κs within = ClearAt-turned c.args.task.now.scene c.in_ok-turned.turned.scene c.in_ok-turned.ensures.scene c.requires.middle

pub returns : goal.returns
returns g c =
    IfOk-weaker c.whole_run.result _ _
    (λ run whole. record { turned = c.in_ok-turned.turned.scene; turned_round = c.in_ok-turned.ensures.scene; whole = whole })
    c.whole_run.ensures
