use Rattle.std.proofs.Common.{◌<◌, length, sym, ◌∙◌, subst}
use Rattle.grown_runs.proofs.Common.{path_to, IsClearPath, state_of_grown}
use Rattle.path_tools.proofs.RunPaths.{long_path, clear_path}
use Rattle.path_tools.proofs.smoothed_reports.report_along_smoothed.Goals as goal

pub cheapest_path-requires-clause-some : goal.cheapest_path-requires-clause-some
cheapest_path-requires-clause-some g c κs within =
    subst (λ path. 0 < length path) (sym (c.deref.ensures.value ∙ c.in_ok-path.ensures)) (long_path c.args.grown.now c.args.node c.requires.present)

pub cheapest_path-requires-clause-clear : goal.cheapest_path-requires-clause-clear
cheapest_path-requires-clause-clear g c κs within =
    let path = path_to (state_of_grown c.args.grown.now) c.args.node in
    subst (IsClearPath (g.C.Clearing.space c.args.hall.now)) (sym (c.deref.ensures.value ∙ c.in_ok-path.ensures))
    (subst (λ space. IsClearPath space path) (sym c.requires.hall) (clear_path c.args.grown.now c.args.node c.requires.present))
