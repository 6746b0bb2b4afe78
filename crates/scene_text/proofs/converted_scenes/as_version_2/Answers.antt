use Rattle.scene_text.proofs.Words.{arith, IsBetween-wider, are_goals-wider, are_obstacles-wider, clearance-wider, is_plan-wider, may_be_informed-wider}
use Rattle.scene_text.proofs.Words.{step-wider, LEAST_SIDE}
use Rattle.scene_text.proofs.converted_scenes.as_version_2.Goals as goal

pub invariant_of-scene : goal.invariant_of-scene
invariant_of-scene c =
    let scene = c.args.scene in
    record {
      version_low = omega arith;
      version_high = omega arith;
      room_within = IsBetween-wider scene.version LEAST_SIDE scene.room scene.room_within;
      body_within = scene.body_within;
      obstacles_within = are_obstacles-wider scene.version scene.obstacles scene.obstacles_within;
      clearance_high = omega (arith, scene.clearance_high, clearance-wider scene.version);
      start_within = IsBetween-wider scene.version 0 scene.start scene.start_within;
      goals_within = are_goals-wider scene.version scene.goals scene.goals_within;
      step_low = scene.step_low;
      step_high = omega (arith, scene.step_high, step-wider scene.version);
      gamma_high = scene.gamma_high;
      seed_high = scene.seed_high;
      strips_low = scene.strips_low;
      strips_high = scene.strips_high;
      informed_within = may_be_informed-wider scene.version scene.informed scene.informed_within;
      plan_within = is_plan-wider scene.version scene.plan scene.plan_within;
    }
