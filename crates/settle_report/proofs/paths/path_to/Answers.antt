use Rattle.settle_report.proofs.Words.{reverse, sym, ap, ◌∙◌, state_of_grown}
use Rattle.settle_report.proofs.GrownPaths.{path_to-reverse}
use Rattle.settle_report.proofs.paths.path_to.Goals as goal

pub returns : goal.returns
returns c = c.reverse.ensures.items ∙ ap reverse c.in_ok-path.ensures ∙ sym (path_to-reverse (state_of_grown c.args.grown.now) c.args.node)
