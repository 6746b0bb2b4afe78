use Rattle.report_judge.proofs.Words.{[], reverse, sym, ap, ◌∙◌, state_of_lists, path_to-reverse}
use Rattle.report_judge.proofs.trees.best_paths.path_to.Goals as goal

pub returns : goal.returns
returns c = c.reverse.ensures.items ∙ ap reverse c.in_ok-path.ensures ∙ sym (path_to-reverse (state_of_lists c.args.knots.now []) c.args.node)
