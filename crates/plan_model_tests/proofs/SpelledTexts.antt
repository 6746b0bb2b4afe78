-- The scene that a text spells, computed with what shows that it does.
use Rattle.plan_model_tests.proofs.Words.{◌≡◌, ℕ, Option, Some, None, List, refl, length, ◌==◌, map, Point, LEAST_SIDE, LEAST_STEP, LEAST_STRIPS, MOST_GAMMA}
use Rattle.plan_model_tests.proofs.Words.{MOST_SEED, MOST_STRIPS, Scene, IsBetween, are_goals, are_obstacles, is_body, is_plan, may_be_informed, most_clearance}
use Rattle.plan_model_tests.proofs.Words.{most_side, most_step, Format, Given, corners_from, Spells, body_from, fault_of_end, fault_of_line, first_of}
use Rattle.plan_model_tests.proofs.Words.{given_after_version, goal_from, number_or, plan_from, point_from, version_given, lines_of, statements_of, is_some}
use Rattle.plan_model_tests.proofs.Words.{true}
use Rattle.plan_model.specs.declared.text_terms.Key.TheVariants as keys
use Rattle.plan_model_tests.proofs.Decisions.{each_below, given, if_so, is_absent, is_at_most, is_true, value_of}

abbrev pub is_between : (low high : ℕ) (p : Point) → Dec (IsBetween low high p)
is_between low high p =
    given (is_at_most low p.x) (λ h. h.left) (λ a.
    given (is_at_most p.x high) (λ h. h.right) (λ b.
    given (is_at_most low p.y) (λ h. h.bottom) (λ c.
    given (is_at_most p.y high) (λ h. h.top) (λ d.
    yes (record { left = a; right = b; bottom = c; top = d })))))

module _ (format : Format) (text : List ℕ) where
  -- what its lines give after the version
  abbrev pub lines_give : Given
  lines_give = given_after_version (statements_of (lines_of text))

  abbrev pub spelled_by : (version : ℕ) → version_given format.reads (statements_of (lines_of text)) ≡ Some version
      → Option ((scene : Scene) × Spells format text scene)
  spelled_by version read =
      let room = point_from (first_of (lines_give keys.Room)) in
      let body = body_from (lines_give keys.Body) in
      let obstacles = map corners_from (lines_give keys.Obstacle) in
      let clearance = number_or 0 (first_of (lines_give keys.Clearance)) in
      let start = point_from (first_of (lines_give keys.Start)) in
      let goals = map goal_from (lines_give keys.Goal) in
      let step = number_or 0 (first_of (lines_give keys.Step)) in
      let gamma = number_or 0 (first_of (lines_give keys.Gamma)) in
      let seed = number_or 0 (first_of (lines_give keys.Seed)) in
      let strips = number_or 1 (first_of (lines_give keys.Strips)) in
      let informed = number_or 0 (first_of (lines_give keys.Informed)) == 1 in
      let plan = plan_from (lines_give keys.Marks) (lines_give keys.Mark) in
      if_so (is_at_most 1 version) (λ version_low.
      if_so (is_at_most version 2) (λ version_high.
      if_so (is_between LEAST_SIDE (most_side version) room) (λ room_within.
      if_so (is_true (is_body body)) (λ body_within.
      if_so (is_true (are_obstacles version obstacles)) (λ obstacles_within.
      if_so (is_at_most clearance (most_clearance version)) (λ clearance_high.
      if_so (is_between 0 (most_side version) start) (λ start_within.
      if_so (is_true (are_goals version goals)) (λ goals_within.
      if_so (is_at_most LEAST_STEP step) (λ step_low.
      if_so (is_at_most step (most_step version)) (λ step_high.
      if_so (is_at_most gamma MOST_GAMMA) (λ gamma_high.
      if_so (is_at_most seed MOST_SEED) (λ seed_high.
      if_so (is_at_most LEAST_STRIPS strips) (λ strips_low.
      if_so (is_at_most strips MOST_STRIPS) (λ strips_high.
      if_so (is_true (may_be_informed version informed)) (λ informed_within.
      if_so (is_true (is_plan version plan)) (λ plan_within.
      if_so
      (each_below (λ i. fault_of_line format (lines_of text) i ≡ None) (λ i. is_absent (fault_of_line format (lines_of text) i)) (length (lines_of text)))
      (λ sound.
      if_so (is_absent (fault_of_end format (statements_of (lines_of text)))) (λ complete.
      Some (
        record {
          version = version;
          room = room;
          body = body;
          obstacles = obstacles;
          clearance = clearance;
          start = start;
          goals = goals;
          step = step;
          gamma = gamma;
          seed = seed;
          strips = strips;
          informed = informed;
          plan = plan;
          version_low = version_low;
          version_high = version_high;
          room_within = room_within;
          body_within = body_within;
          obstacles_within = obstacles_within;
          clearance_high = clearance_high;
          start_within = start_within;
          goals_within = goals_within;
          step_low = step_low;
          step_high = step_high;
          gamma_high = gamma_high;
          seed_high = seed_high;
          strips_low = strips_low;
          strips_high = strips_high;
          informed_within = informed_within;
          plan_within = plan_within;
        },
        record {
          sound = sound;
          complete = complete;
          fields = record {
            version = read;
            room = refl;
            body = refl;
            obstacles = refl;
            clearance = refl;
            start = refl;
            goals = refl;
            step = refl;
            gamma = refl;
            seed = refl;
            strips = refl;
            informed = refl;
            plan = refl;
          };
        },
      )))))))))))))))))))

  abbrev pub spelled_if : (read : Option ℕ) → version_given format.reads (statements_of (lines_of text)) ≡ read
      → Option ((scene : Scene) × Spells format text scene)
  spelled_if None e = None
  spelled_if (Some version) e = spelled_by version e

  abbrev pub spelling : Option ((scene : Scene) × Spells format text scene)
  spelling = spelled_if (version_given format.reads (statements_of (lines_of text))) refl

  abbrev pub spelled : is_some spelling ≡ true → (scene : Scene) × Spells format text scene
  spelled = value_of spelling
