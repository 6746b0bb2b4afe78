use Rattle.edge_cost.proofs.Words.{arith, IsStep-partial}
use Rattle.edge_cost.proofs.steering.partway.Goals as goal

pub returns-clause-steps : goal.returns-clause-steps
returns-clause-steps c =
    IsStep-partial c.args.a c.args.b c.args.step c.args.length c.advanced.result c.advanced-2.result (omega arith) c.requires.beyond c.requires.bound
    c.advanced.ensures c.advanced-2.ensures
