-- The better paths of a run, by the run that it has come to.
use Rattle.std.specs.Prelude.{◌≡◌, ℕ, List, Some, suc, [], ◌∷◌, ◌++◌, flat_map, codes, decimal}
use Rattle.any_time.specs.Terms.{Better, Grown, Scene, TreeState, line, short_report, state_of_grown}
use Rattle.any_time.specs.Items.{HasGiven, MissesNoFall, AreTextbookItems}

-- A session of the run's task has given these until it came to the run, and has left out none. By one worker they are the items of the textbook's runs.
pub record AreBetterPaths (workers slice : ℕ) (run : Grown) (items : List Better) : Type 0 where
  pub given : HasGiven run.task workers slice items (Some run)
  pub all : MissesNoFall run.task workers slice items run
  pub textbook : workers ≡ 1 → AreTextbookItems run.task slice items

-- ---- The report of a run that was polled for better paths: a line for each, and then the short report. That of several runs.
-- what a better path costs, and after how many marks it came
abbrev pub better_line : Better → List ℕ
better_line better = line (codes "better" ∷ decimal better.cost ∷ codes "marks" ∷ decimal better.marks ∷ [])

-- a line for each
abbrev pub better_lines : List Better → List ℕ
better_lines items = flat_map better_line items

abbrev pub better_report : List Better → Scene → ℕ → TreeState → List ℕ
better_report items scene limit state = better_lines items ++ short_report scene limit state

-- which scene of a batch it is, counted from 0
abbrev pub scene_line : ℕ → List ℕ
scene_line number = line (codes "scene" ∷ decimal number ∷ [])

-- the line of the scene with this number, and the report of its run
abbrev pub scene_report : ℕ → List Better → Grown → List ℕ
scene_report number items run = scene_line number ++ better_report items run.task.scene run.limit (state_of_grown run)

-- that of each run, from this number on, with its list of better paths
abbrev pub batch_report : ℕ → List (List Better) → List Grown → List ℕ
batch_report number (items ∷ lists) (run ∷ runs) = scene_report number items run ++ batch_report (suc number) lists runs
batch_report number lists runs = []
