use Rattle.std.proofs.Common.{◌∙◌, sym}
use Rattle.plan_work.proofs.RetiredWorkers.{HasDone-left}
use Rattle.plan_work.proofs.growing.work_and_retire.Goals as goal

pub returns : goal.returns
returns g c = record {
  pass = c.in-Working.pass;
  left = c.retire.result;
  had = sym c.replace.ensures.value ∙ c.in-Working.is;
  has = cc;
  done = HasDone-left c.args.shared.now c.args.limit c.in-Working.pass c.work.new.pass c.retire.result c.work.ensures.goes_on c.work.ensures.worked
      c.work.ensures.none_left c.work.ensures.textbook c.retire.ensures;
}
