use Rattle.report_judge.proofs.own.standings.costs_of.Goals as goal

pub returns : goal.returns
returns c = λ i. record { node = c.args.node; first_cost = c.first_cost.ensures c.args.knots.now i; cost = c.kept_cost.ensures i }
