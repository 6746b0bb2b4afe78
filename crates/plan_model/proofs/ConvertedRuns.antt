-- A scene and the one that it is converted to have the same inputs of their textbook runs, and the same goals.
use Rattle.plan_model.proofs.Words.{◌≡◌, ℕ, ◌+◌, ◌%◌, ◌^◌, List, [], map, cond, refl, sym, ap, ◌∙◌, range_with_len, Point, Vertex, Marks, Drawn, Listed, Scene}
use Rattle.plan_model.proofs.Words.{HaveSameInputs, skipping_goals, IsConverted, columns, first_word, mark_points, picked, points_of_marks, rows, second_word}
use Rattle.plan_model.proofs.Words.{strip, strip_of_mark, space_of}

module _ (scene converted : Scene) (h : IsConverted scene converted) where
  pub space_of-converted : space_of converted ≡ space_of scene
  space_of-converted = λ i. record { room = h.room i; body = h.body i; obstacles = h.obstacles i; clearance = h.clearance i }

  skipping_goals-converted : skipping_goals converted ≡ skipping_goals scene
  skipping_goals-converted = λ i. cond (h.informed i) (h.goals i) []

  -- the drawn mark k of a scene with these fields
  drawn_by : Point → List Vertex → ℕ → ℕ → ℕ → Point
  drawn_by room body seed strips k =
      let state = (seed + k) % 2 ^ 64 in
      let own_strip = strip (columns room body) strips (strip_of_mark strips k) in
      record { x = picked own_strip (first_word state); y = picked (rows room body) (second_word state) }

  points_of_marks-converted : (plan : Marks) → points_of_marks converted plan ≡ points_of_marks scene plan
  unfolding drawn_by
  points_of_marks-converted (Listed points) = refl
  points_of_marks-converted (Drawn n) = λ i. map (drawn_by (h.room i) (h.body i) (h.seed i) (h.strips i)) (range_with_len 0 n)

  mark_points-converted : mark_points converted ≡ mark_points scene
  mark_points-converted = ap (points_of_marks converted) h.plan ∙ points_of_marks-converted scene.plan

  pub HaveSameInputs-converted : HaveSameInputs scene converted
  HaveSameInputs-converted = record {
    space = sym space_of-converted;
    start = sym h.start;
    step = sym h.step;
    gamma = sym h.gamma;
    goals = sym skipping_goals-converted;
    marks = sym mark_points-converted;
  }

  pub HaveSameInputs-unconverted : HaveSameInputs converted scene
  HaveSameInputs-unconverted = record {
    space = space_of-converted;
    start = h.start;
    step = h.step;
    gamma = h.gamma;
    goals = skipping_goals-converted;
    marks = mark_points-converted;
  }
