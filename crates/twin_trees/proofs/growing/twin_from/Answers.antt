use Rattle.twin_trees.proofs.Words.{◌≡◌, ap, sym, subst, ◌∙◌, setup_of, space_of, ClearAt, Scene, Task, state_of_grown, IsBridge, goal_middle, IsTurnedRun}
use Rattle.twin_trees.proofs.growing.twin_from.Goals as goal

pub turned_run-requires-clause-hall : goal.turned_run-requires-clause-hall
turned_run-requires-clause-hall g c κs within =
    c.requires.hall ∙ ap space_of (sym (ap (λ (t : Task). t.scene) c.task.ensures ∙ c.in_ok-from_start.ensures.scene_is))

pub turned_run-requires-clause-middle : goal.turned_run-requires-clause-middle
turned_run-requires-clause-middle g c κs within =
    subst (λ (s : Scene). ClearAt (space_of s) (goal_middle s)) (sym (ap (λ (t : Task). t.scene) c.task.ensures ∙ c.in_ok-from_start.ensures.scene_is))
    c.requires.middle

pub least_bridge-requires-clause-hall : goal.least_bridge-requires-clause-hall
least_bridge-requires-clause-hall g c κs within = c.requires.hall ∙ ap space_of (sym c.in_ok-from_start.ensures.scene_is)

pub returns : goal.returns
returns g c =
    let from_start = c.in_ok-from_start.from_start in
    let from_goal = c.in_ok-from_goal.from_goal in
    let same : c.task.result.now.scene ≡ c.args.task.scene = ap (λ (t : Task). t.scene) c.task.ensures ∙ c.in_ok-from_start.ensures.scene_is in
    let other = subst (λ (s : Scene). IsTurnedRun c.args.workers s from_goal) same c.in_ok-from_goal.ensures in
    record {
      from_start = c.in_ok-from_start.ensures;
      turned = other.turned;
      turned_round = other.turned_round;
      from_goal = other.whole;
      bridge =
          subst (λ (s : Scene). IsBridge (setup_of s) (state_of_grown from_start) (state_of_grown from_goal) c.in_ok-bridge.bridge)
          c.in_ok-from_start.ensures.scene_is c.in_ok-bridge.ensures;
    }
