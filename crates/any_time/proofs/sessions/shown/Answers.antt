use Rattle.std.proofs.Common.{◌∙◌}
use Rattle.any_time.proofs.BestNodes.{IsPresent-best}
use Rattle.any_time.proofs.sessions.shown.Goals as goal

pub path_to-requires : goal.path_to-requires
path_to-requires c = IsPresent-best c.args.run.now c.args.node c.requires.best

pub cost-requires : goal.cost-requires
cost-requires c = IsPresent-best c.args.run.now c.args.node c.requires.best

pub returns : goal.returns
returns c = record {
  node = c.args.node;
  best = c.requires.best;
  path = c.from_vec.ensures ∙ c.in_ok-path.ensures;
  cost = c.cost.ensures ∙ c.requires.settled c.args.node (IsPresent-best c.args.run.now c.args.node c.requires.best);
  marks = c.limit.ensures;
}
