use Rattle.twin_trees.proofs.Words.{[], ◌∷◌, refl, ap, ◌∙◌, same_parts, with_ends, Goal, ConfigurationSpace, goal_middle, start_boxes}
use Rattle.twin_trees.proofs.TurnedRanges.{IsBetween-middle, are_goals-start}
use Rattle.twin_trees.proofs.turned_scenes.turned_scene.Goals as goal

pub returns : goal.returns
returns c =
    let scene = c.args.scene.now in
    record {
      start_within = IsBetween-middle scene;
      goals_within = are_goals-start scene;
      is = same_parts _ (with_ends scene (goal_middle scene) (IsBetween-middle scene) (start_boxes scene) (are_goals-start scene)) (record {
        version = refl;
        room = ap (λ (s : ConfigurationSpace). s.room) c.in_ok-space.ensures;
        body = ap (λ (s : ConfigurationSpace). s.body) c.in_ok-space.ensures;
        obstacles = ap (λ (s : ConfigurationSpace). s.obstacles) c.in_ok-space.ensures;
        clearance = ap (λ (s : ConfigurationSpace). s.clearance) c.in_ok-space.ensures;
        start = c.middle_of_first_goal.ensures;
        goals = c.from_vec-goals.ensures ∙ c.in_ok-vec.ensures.items ∙ ap (λ (box : Goal). box ∷ []) c.box_round.ensures;
        step = refl;
        gamma = refl;
        seed = refl;
        strips = refl;
        informed = refl;
        plan = c.in_ok-plan.ensures;
      });
    }
