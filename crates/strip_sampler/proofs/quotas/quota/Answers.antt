use Rattle.strip_sampler.proofs.QuotaCounts.{quota-divided}
use Rattle.strip_sampler.proofs.quotas.quota.Goals as goal

pub returns : goal.returns
returns c = rw c.from.ensures (quota-divided c.args.strips c.args.strip c.args.limit c.requires)
