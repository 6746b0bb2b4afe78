use Rattle.plan_model.proofs.Words.{◌≡◌, List, [], refl, sym, ap, ◌∙◌, Point, Scene, Listed, mark_points, points_of_marks, space_among}
use Rattle.plan_model.proofs.small_scenes.SmallScene.task.Goals as goal

-- the marks of a plan that lists them
listed_marks : (scene : Scene) (listed marks : List Point) → scene.plan ≡ Listed listed → marks ≡ listed → marks ≡ mark_points scene
listed_marks scene listed marks plan same = same ∙ ap (points_of_marks scene) (sym plan)

pub scene-requires-clause-body : goal.scene-requires-clause-body
scene-requires-clause-body c = rw (c.from_vec-body.ensures ∙ c.in_ok-vec.ensures.items) refl

pub scene-requires-clause-obstacles : goal.scene-requires-clause-obstacles
scene-requires-clause-obstacles c = rw (c.from_vec-obstacles.ensures ∙ c.new.ensures.items) refl

pub scene-requires-clause-plan : goal.scene-requires-clause-plan
scene-requires-clause-plan c = rw (c.from_vec.ensures ∙ c.in_ok-from_slice.ensures.items) c.requires

pub invariant_of-branch : goal.invariant_of-branch
invariant_of-branch c =
    let scene = c.in_ok-scene.field-0 in record {
      version_low = scene.version_low;
      version_high = scene.version_high;
      room_within = scene.room_within;
      body_within = scene.body_within;
      obstacles_within = scene.obstacles_within;
      clearance_high = scene.clearance_high;
      start_within = scene.start_within;
      goals_within = scene.goals_within;
      step_low = scene.step_low;
      step_high = scene.step_high;
      gamma_high = scene.gamma_high;
      seed_high = scene.seed_high;
      strips_low = scene.strips_low;
      strips_high = scene.strips_high;
      informed_within = scene.informed_within;
      plan_within = scene.plan_within;
    }

pub invariant_of-result : goal.invariant_of-result
invariant_of-result c =
    let plan = c.in_ok-scene.ensures.plan ∙ ap Listed (c.from_vec.ensures ∙ c.in_ok-from_slice.ensures.items) in
    let marks = c.from_vec-2.ensures ∙ c.in_ok-from_slice-2.ensures.items in
    record { of_scene = listed_marks c.in_ok-scene.field-0 c.args.marks.now c.from_vec-2.result plan marks }

pub returns-clause-version : goal.returns-clause-version
returns-clause-version c = c.in_ok-scene.ensures.version

pub returns-clause-setup : goal.returns-clause-setup
returns-clause-setup c =
    let small = c.args.self in
    let body = c.from_vec-body.ensures ∙ c.in_ok-vec.ensures.items in
    let obstacles = c.from_vec-obstacles.ensures ∙ c.new.ensures.items in
    c.in_ok-scene.ensures.setup
    ∙ (λ i. record { space = space_among small.room (body i) (obstacles i); start = small.start; step = small.step; gamma = small.gamma; goals = [] })

pub returns-clause-marks : goal.returns-clause-marks
returns-clause-marks c = c.from_vec-2.ensures ∙ c.in_ok-from_slice-2.ensures.items
