use Rattle.std.proofs.Common.{subst}
use Rattle.plan_model.specs.Trees.NodeLists.{IsFree}
use Rattle.step_core.specs.Stages.{linked_points}
use Rattle.step_core.specs.Views.{run_sizes}
use Rattle.step_core.proofs.OneView.LawfulSights.{IsFree-leads}
use Rattle.step_core.proofs.Steps.WorldSteps.{follow, tree}
use Rattle.step_core.proofs.world_laws.empty_places_have_no_node.Goals as goal

pub returns : goal.returns
returns c =
    λ now is q n side leads empty.
    subst (λ r. IsFree (linked_points (run_sizes r) now.words) q) is.own
    (IsFree-leads now.view now.words (is.world.seen.behind now.id now.view is.at) (tree now.run now.words now.views now.id now.view is.world is.at is.own)
    (follow now.run now.words now.views now.id now.view is.world is.at is.own) q n side leads empty)
