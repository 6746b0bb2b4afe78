-- What the view of a pass says: its share, its hand, and the words that it has seen. The words are read by their names.
use Rattle.std.specs.Prelude.{◌≡◌, ℕ, ◌<◌, ◌≤◌, ◌==◌, Bool, false, Option, Some, None, List, [], count_by, length}
use Rattle.step_core.specs.Terms.{Best, Hand, IsBounded, MOST_MARKS, MOST_STEERING_STEP, MOST_STRIPS, MOST_WORKERS, Member, SeenTree, SeenWords, Setup}
use Rattle.step_core.specs.Terms.{SharedRun, Sizes, Task, View, Word, Words, map, mark_at, no_best, range_with_len, record_at, replicate, seen_tree_of_words}
use Rattle.step_core.specs.Terms.{skipping_goals, space_among, space_of, turns_of, word_at, word_count}

-- ---- the run
-- what those are told who work on a task, from a run at this limit
abbrev pub run_of : Task → ℕ → ℕ → SharedRun
run_of task workers opening = record {
  space = space_of task.scene;
  start = task.scene.start;
  step = task.scene.step;
  gamma = task.scene.gamma;
  goals = skipping_goals task.scene;
  strips = task.scene.strips;
  marks = task.marks;
  workers = workers;
  opening = opening;
}

-- what the tree depends on besides the marks
abbrev pub setup_in : SharedRun → Setup
setup_in run = record { space = run.space; start = run.start; step = run.step; gamma = run.gamma; goals = run.goals }

-- how many strips and marks it has
abbrev pub run_sizes : SharedRun → Sizes
run_sizes run = record { strips = run.strips; marks = length run.marks }

-- its words in the list of them
abbrev pub words_of_run : SharedRun → List ℕ → Words
words_of_run run items = word_at (run_sizes run) items

-- its numbers are within their limits
pub record IsSharedRun (run : SharedRun) : Type 0 where
  pub strips : (0 < run.strips) × (run.strips ≤ MOST_STRIPS)
  pub marks : length run.marks ≤ MOST_MARKS
  pub points : (k : ℕ) → IsBounded (mark_at run.marks k)
  pub start : IsBounded run.start
  pub step : run.step ≤ MOST_STEERING_STEP
  pub workers : (0 < run.workers) × (run.workers ≤ MOST_WORKERS)
  pub opening : run.opening ≤ length run.marks

-- ---- share and hand
-- for how many workers the pass stands
abbrev pub share : View → ℕ
share view = length view.crew

-- how often a worker is in a crew
abbrev pub times : ℕ → List Member → ℕ
times worker crew = count_by (λ member. member.worker == worker) crew

-- the mark is in this hand
abbrev pub holds : ℕ → Option Hand → Bool
holds k None = false
holds k (Some hand) = hand.mark == k

-- ---- seen words
-- each word as the pass last saw it
abbrev pub sees : View → Words
sees view = words_of_run view.run view.seen

-- what the pass that it last took over had seen
abbrev pub took_over : View → Words
took_over view = words_of_run view.run view.took

-- the number of its last step by which it saw each word
abbrev pub last_look : View → Words
last_look view = words_of_run view.run view.looked

-- and of its last step that found the word 0
abbrev pub last_zero : View → Words
last_zero view = words_of_run view.run view.found_zero

-- what it has looked at, with its steps
abbrev pub seen_words : View → SeenWords
seen_words view = record { seen = sees view; steps = view.steps; found_zero = last_zero view }

-- the tree as far as it has seen it
abbrev pub tree_seen : View → SeenTree
tree_seen view = seen_tree_of_words (run_sizes view.run) (sees view)

-- The view is of this run. Its tables of what it has seen, and when, have a place for each word, and all its looks are by steps that it has made.
pub record IsViewOf (run : SharedRun) (view : View) : Type 0 where
  pub run_is : view.run ≡ run
  pub seen : length view.seen ≡ word_count (run_sizes run)
  pub looked : length view.looked ≡ word_count (run_sizes run)
  pub found_zero : length view.found_zero ≡ word_count (run_sizes run)
  pub looks : (name : Word) → last_look view name ≤ view.steps
  pub zero_looks : (name : Word) → last_zero view name ≤ view.steps

-- ---- spent views
-- no run
abbrev pub no_run : SharedRun
no_run = record {
  space = space_among (record { x = 0; y = 0 }) [] [];
  start = record { x = 0; y = 0 };
  step = 0;
  gamma = 0;
  goals = [];
  strips = 0;
  marks = [];
  workers = 0;
  opening = 0;
}

-- what is left of a view that was taken over
abbrev pub spent : View
spent = record { run = no_run; crew = []; most = 0; hand = None; seen = []; best = no_best; took = []; steps = 0; looked = []; found_zero = []; notes = [] }

-- ---- How a shared run begins: with one view, which has the share of all workers and has seen all words.
-- a worker, whose next turn is the number of its records
abbrev pub member_of : SharedRun → Words → ℕ → Member
member_of run words w = record { worker = w; turn = turns_of (record_at words) (length run.marks) w }

-- so many workers from w on
abbrev pub crew_from : SharedRun → Words → ℕ → ℕ → List Member
crew_from run words w count = map (member_of run words) (range_with_len w count)

-- the first view, over the list of all words
abbrev pub newcomer : SharedRun → List ℕ → View
newcomer run items = record {
  run = run;
  crew = crew_from run (words_of_run run items) 0 run.workers;
  most = run.opening;
  hand = None;
  seen = items;
  best = words_of_run run items Best;
  took = [];
  steps = 0;
  looked = replicate (length items) 0;
  found_zero = replicate (length items) 0;
  notes = [];
}
