-- The canonical text of a scene: a line for each field and each mark, in one order, also if the value is the one that holds without the line,
-- but for `informed`, and for `clearance` in version 1, of which it is no key.
use Rattle.std.specs.Prelude.{◌≡◌, ℕ, ◌==◌, not, Bool, true, false, ℤ, pos, List, [], ◌∷◌, ◌++◌, map, flat_map}
use Rattle.plan_model.specs.Terms.{Drawn, Goal, Key, Listed, Marks, Point, Vertex, signed_decimal}
use Rattle.plan_model.specs.declared.scenes.Scene.{Scene}
use Rattle.plan_model.specs.declared.text_terms.Key.TheVariants as keys
use Rattle.plan_model.specs.Reports.ReportText.{line}
use Rattle.plan_model.specs.Scenes.Limits.{by_version}
use Rattle.plan_model.specs.Texts.Keys.{format_name, version_word, name_of}
use Rattle.plan_model.specs.Texts.LineChecks.{Format}

-- ---- the numbers of the parts of a scene
-- the column and the row of a point
abbrev pub point_numbers : Point → List ℤ
point_numbers p = pos p.x ∷ pos p.y ∷ []

-- the low corner, and then the high one
abbrev pub goal_numbers : Goal → List ℤ
goal_numbers goal = pos goal.low.x ∷ pos goal.low.y ∷ pos goal.high.x ∷ pos goal.high.y ∷ []

-- the columns and rows of corners, one corner after another
abbrev pub corner_numbers : List Vertex → List ℤ
corner_numbers corners = flat_map (λ corner. corner.x ∷ corner.y ∷ []) corners

-- ---- the words of each line
-- a key, and its numbers in decimal
abbrev pub statement : Key → List ℤ → List (List ℕ)
statement key numbers = name_of key ∷ map signed_decimal numbers

-- the words of the first line
abbrev pub version_statement : ℕ → List (List ℕ)
version_statement version = format_name ∷ version_word version ∷ []

-- the words of an obstacle's line
abbrev pub obstacle_statement : List Vertex → List (List ℕ)
obstacle_statement corners = statement keys.Obstacle (corner_numbers corners)

-- the words of a goal's line
abbrev pub goal_statement : Goal → List (List ℕ)
goal_statement goal = statement keys.Goal (goal_numbers goal)

-- the words of a listed mark's line
abbrev pub mark_statement : Point → List (List ℕ)
mark_statement p = statement keys.Mark (point_numbers p)

-- how many marks are drawn, or a line for each mark that is listed
abbrev pub plan_statements : Marks → List (List (List ℕ))
plan_statements (Drawn n) = statement keys.Marks (pos n ∷ []) ∷ []
plan_statements (Listed points) = map mark_statement points

-- the clearance, in version 2
abbrev pub clearance_statements : Scene → List (List (List ℕ))
clearance_statements scene = by_version scene.version [] (statement keys.Clearance (pos scene.clearance ∷ []) ∷ [])

-- that the scene is informed, if it is
abbrev pub informed_statements : Bool → List (List (List ℕ))
informed_statements true = statement keys.Informed (pos 1 ∷ []) ∷ []
informed_statements false = []

-- how the goals are searched for
abbrev pub search_statements : Scene → List (List (List ℕ))
search_statements scene =
    statement keys.Step (pos scene.step ∷ [])
    ∷ statement keys.Gamma (pos scene.gamma ∷ [])
    ∷ statement keys.Seed (pos scene.seed ∷ [])
    ∷ statement keys.Strips (pos scene.strips ∷ [])
    ∷ informed_statements scene.informed

-- what is to be planned in the room
abbrev pub task_statements : Scene → List (List (List ℕ))
task_statements scene = statement keys.Start (point_numbers scene.start) ∷ (map goal_statement scene.goals ++ search_statements scene)

-- the statements of a scene: the version, the room, the body, the obstacles, the clearance, the task and the marks
abbrev pub canonical_statements : Scene → List (List (List ℕ))
canonical_statements scene =
    version_statement scene.version
    ∷ statement keys.Room (point_numbers scene.room)
    ∷ statement keys.Body (corner_numbers scene.body)
    ∷ (map obstacle_statement scene.obstacles ++ (clearance_statements scene ++ (task_statements scene ++ plan_statements scene.plan)))

-- the canonical text of the scene has lines with the key, or may have
abbrev pub has_key : Scene → Key → Bool
has_key scene keys.Clearance = not (scene.version == 1)
has_key scene keys.Informed = scene.informed
has_key scene key = true

-- the version of the scene is read, and the keys of its canonical text are supported
pub record Covers (format : Format) (scene : Scene) : Type 0 where
  pub version : format.reads scene.version ≡ true
  pub keys : (key : Key) → has_key scene key ≡ true → format.built key ≡ true

-- The statements, a line each: one space between two words, and a line feed at the end.
abbrev pub canonical_text : Scene → List ℕ
canonical_text scene = flat_map line (canonical_statements scene)
