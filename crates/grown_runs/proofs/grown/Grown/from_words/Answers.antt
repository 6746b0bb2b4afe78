use Rattle.grown_runs.proofs.Words.{sym, ap, ◌∙◌, subst, HoldRun, sizes_in}
use Rattle.grown_runs.proofs.grown.Grown.from_words.Goals as goal

pub invariant_of-result : goal.invariant_of-result
invariant_of-result c = record {
  of_task = ap sizes_in c.clear.ensures.places ∙ c.requires.sizes;
  hold_run = subst (HoldRun c.args.task c.args.limit) (sym c.clear.ensures.words) c.requires.run;
}
