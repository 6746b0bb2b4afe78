-- Scenes that differ from a given one: in their start and goals, or in their version.
use Rattle.plan_model.specs.Terms.{Goal, IsTrue, List, Point}
use Rattle.plan_model.specs.declared.scenes.Scene.{Scene}
use Rattle.plan_model.specs.Scenes.Limits.{IsBetween, are_goals, most_side}
use Rattle.std.specs.Prelude.{◌≡◌}

-- ---- A scene with another start and other goals.
-- the scene, but for its start and its goals, which are these
abbrev pub with_ends : (scene : Scene) (start : Point) → IsBetween 0 (most_side scene.version) start
    → (goals : List Goal) → IsTrue (are_goals scene.version goals) → Scene
with_ends scene start start_within goals goals_within =
    record scene { start = start; goals = goals; start_within = start_within; goals_within = goals_within }

-- ---- A scene as one of version 2.
-- the second scene has version 2, and else all that the first one has
pub record IsConverted (scene converted : Scene) : Type 0 where
  pub version : converted.version ≡ 2
  pub room : converted.room ≡ scene.room
  pub body : converted.body ≡ scene.body
  pub obstacles : converted.obstacles ≡ scene.obstacles
  pub clearance : converted.clearance ≡ scene.clearance
  pub start : converted.start ≡ scene.start
  pub goals : converted.goals ≡ scene.goals
  pub step : converted.step ≡ scene.step
  pub gamma : converted.gamma ≡ scene.gamma
  pub seed : converted.seed ≡ scene.seed
  pub strips : converted.strips ≡ scene.strips
  pub informed : converted.informed ≡ scene.informed
  pub plan : converted.plan ≡ scene.plan
