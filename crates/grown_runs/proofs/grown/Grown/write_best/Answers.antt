use Rattle.grown_runs.proofs.Words.{ap, ◌∙◌, sizes_in, words_in}
use Rattle.grown_runs.proofs.Runs.HeldBests.{HoldRun-best}
use Rattle.grown_runs.proofs.grown.Grown.write_best.Goals as goal

pub invariant_of-self : goal.invariant_of-self
invariant_of-self c = record {
  of_task = ap sizes_in c.set_best.ensures.places ∙ c.args.self.now.of_task;
  hold_run =
      HoldRun-best (words_in c.args.self.now.words) (words_in c.set_best.new.self) c.least_best-best.result c.set_best.ensures.word c.args.self.now.task
      c.args.self.now.limit c.args.self.now.hold_run;
}
