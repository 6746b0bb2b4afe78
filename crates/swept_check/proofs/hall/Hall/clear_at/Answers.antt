use Rattle.plan_model.proofs.SegmentLaws.{Clear-alone, Clear-first}
use Rattle.swept_check.proofs.hall.Hall.clear_at.Goals as goal

pub returns : goal.returns
returns c = (
  λ t. Clear-first c.args.self.now c.args.p c.args.p (c.clear.ensures.0 t),
  λ clear. c.clear.ensures.1 (Clear-alone c.args.self.now c.args.p clear),
)
