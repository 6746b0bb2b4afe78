-- Two trees of a scene, from its start and from the middle of its first goal, and the bridge between them.
use Rattle.std.specs.Prelude.{◌≡◌, ℕ, ◌+◌, ◌≤◌, Option, Some, None, ◌<◌, ◌^◌, List, All, Contains, IfSome, ◌/◌, IsTrue, [], ◌∷◌, slice_index_or, codes}
use Rattle.std.specs.Prelude.{length, Bool, ◌==◌, ◌&&◌, ◌++◌, map, if◌then◌else◌}
use Rattle.twin_trees.specs.Terms.{Bridge, Goal, Grown, IsAllowedEdge, IsBetween, IsClosed, IsOfTextbookRun, IsPresent, IsSettled, Numbered, Point, Record}
use Rattle.twin_trees.specs.Terms.{Scene, Setup, StandsAt, TreeState, Twin, TwinFault, TwoRuns, are_goals, chain_in, cost_of, counts_line, mark_points}
use Rattle.twin_trees.specs.Terms.{most_side, no_path_line, path_line, path_to, point_lines, point_of, setup_of, state_of_grown, sum_in, with_ends}
use Rattle.twin_trees.specs.declared.twin_runs.TwinFault.TheVariants as faults

-- ---- Bridges between two trees: allowed edges between a node of each, and the least of them.
-- Node a of one tree and node b of another may be joined: both are present, and the segment between them is clear and no longer than the step.
pub record IsCandidate (setup : Setup) (one other : TreeState) (a b : ℕ) : Type 0 where
  pub one_present : IsPresent one.points a
  pub other_present : IsPresent other.points b
  pub edge : IsAllowedEdge setup (point_of one.points a) (point_of other.points b)

-- what the way over the two costs: the cost-to-come of each in its own tree, and the segment between them
abbrev pub cost_over : TreeState → TreeState → ℕ → ℕ → ℕ
cost_over one other a b = sum_in one a + cost_of (point_of one.points a) (point_of other.points b) + sum_in other b

-- a triple of a cost and two numbers is not above another one, compared from the front
pub record IsTripleNotAbove (cost a b other_cost c d : ℕ) : Type 0 where
  pub least : cost ≤ other_cost
  pub first : other_cost ≡ cost → a ≤ c
  pub second : other_cost ≡ cost → c ≡ a → b ≤ d

-- of all candidates, a and b have the least triple of what the way over them costs and the two numbers
pub record IsLeastBridge (setup : Setup) (one other : TreeState) (a b : ℕ) : Type 0 where
  pub member : IsCandidate setup one other a b
  pub not_above : (c d : ℕ) → IsCandidate setup one other c d → IsTripleNotAbove (cost_over one other a b) a b (cost_over one other c d) c d

-- The bridge between two trees: the least one, or none if there is no candidate.
abbrev pub IsBridge : Setup → TreeState → TreeState → Option (ℕ × ℕ) → Type 0
IsBridge setup one other None = (a b : ℕ) → ¬ IsCandidate setup one other a b
IsBridge setup one other (Some pair) = IsLeastBridge setup one other pair.0 pair.1

-- ---- Bridges by the triples of what the way over them costs and the numbers of their nodes.
-- there is a bridge whose triple is not above this one
abbrev pub IsMatched : Option Bridge → ℕ → ℕ → ℕ → Type 0
IsMatched None cost c d = ⊥
IsMatched (Some bridge) cost c d = IsTripleNotAbove bridge.cost bridge.first bridge.second cost c d

-- what one bridge matches, a later one matches too
abbrev pub IsNoWorse : Option Bridge → Option Bridge → Type 0
IsNoWorse before after = (cost c d : ℕ) → IsMatched before cost c d → IsMatched after cost c d

-- ---- The search for the least bridge: the best one of the pairs that were looked at.
-- the numbered points are the nodes of a tree
pub record AreNodes (state : TreeState) (nodes : List Numbered) : Type 0 where
  pub stand : All (λ n. StandsAt state.points n.number n.point) nodes
  pub each : (n : ℕ) → IsPresent state.points n → Contains nodes (record { point = point_of state.points n; number = n })

-- a bridge is a candidate, and its cost that of the way over it
pub record IsMember (setup : Setup) (one other : TreeState) (bridge : Bridge) : Type 0 where
  pub candidate : IsCandidate setup one other bridge.first bridge.second
  pub cost : bridge.cost ≡ cost_over one other bridge.first bridge.second
  pub low : bridge.cost < 2 ^ 63

-- the bridge so far, if there is one, is a candidate
abbrev pub MayBeBest : Setup → TreeState → TreeState → Option Bridge → Type 0
MayBeBest setup one other best = IfSome best (IsMember setup one other)

-- the way over two nodes, if they are a candidate, is matched
abbrev pub Matches : Setup → TreeState → TreeState → Option Bridge → ℕ → ℕ → Type 0
Matches setup one other best c d = IsCandidate setup one other c d → IsMatched best (cost_over one other c d) c d

-- the same of two runs

abbrev pub MayBeBestIn : TwoRuns → Option Bridge → Type 0
MayBeBestIn runs = MayBeBest (setup_of runs.first.now.task.scene) (state_of_grown runs.first.now) (state_of_grown runs.second.now)

abbrev pub MatchesIn : TwoRuns → Option Bridge → ℕ → ℕ → Type 0
MatchesIn runs = Matches (setup_of runs.first.now.task.scene) (state_of_grown runs.first.now) (state_of_grown runs.second.now)

-- ---- A scene planned from its other end: it starts in the middle of the first goal, and its goal is the old start.
-- the middle of a box, rounded down
abbrev pub middle_of : Goal → Point
middle_of goal = record { x = (goal.low.x + goal.high.x) / 2; y = (goal.low.y + goal.high.y) / 2 }

-- the box of a single point
abbrev pub box_of : Point → Goal
box_of p = record { low = p; high = p }

-- the first goal of a scene (each scene has one)
abbrev pub first_goal : Scene → Goal
first_goal scene = slice_index_or scene.goals 0 (box_of (record { x = 0; y = 0 }))

-- where the tree from the goal begins
abbrev pub goal_middle : Scene → Point
goal_middle scene = middle_of (first_goal scene)

-- the goal of that tree: the start alone
abbrev pub start_boxes : Scene → List Goal
start_boxes scene = box_of scene.start ∷ []

-- The scene from the other end: it starts in the middle of the first goal, its one goal is the start, and all else is the same.
pub record IsTurnedRound (scene turned : Scene) : Type 0 where
  pub start_within : IsBetween 0 (most_side scene.version) (goal_middle scene)
  pub goals_within : IsTrue (are_goals scene.version (start_boxes scene))
  pub is : turned ≡ with_ends scene (goal_middle scene) start_within (start_boxes scene) goals_within

-- ---- twins
-- A run of a scene over all of its marks, each with a record: it keeps the closed law, and each cost is the cost-to-come. Its marks were
-- handled by so many workers at most, numbered from 0. By one worker it is the textbook run of the scene.
pub record IsWholeRun (workers : ℕ) (scene : Scene) (grown : Grown) : Type 0 where
  pub scene_is : grown.task.scene ≡ scene
  pub all_marks : grown.limit ≡ length (mark_points scene)
  pub closed : IsClosed (setup_of scene) (mark_points scene) (length (mark_points scene)) (state_of_grown grown)
  pub settled : IsSettled (state_of_grown grown)
  pub by_workers : (k : ℕ) (entry : Record) → (state_of_grown grown).record_of k ≡ Some entry → entry.worker < workers
  pub textbook : workers ≡ 1 → IsOfTextbookRun (setup_of scene) (mark_points scene) (state_of_grown grown)

-- a whole run of the scene from the other end
pub record IsTurnedRun (workers : ℕ) (scene : Scene) (grown : Grown) : Type 0 where
  pub turned : Scene
  pub turned_round : IsTurnedRound scene turned
  pub whole : IsWholeRun workers turned grown

-- A whole run of the scene by so many workers at most, one of the scene from the other end, and the least bridge between the two, or none if there is none.
pub record IsTwin (workers : ℕ) (scene : Scene) (twin : Twin) : Type 0 where
  pub from_start : IsWholeRun workers scene twin.from_start
  pub turned : Scene
  pub turned_round : IsTurnedRound scene turned
  pub from_goal : IsWholeRun workers turned twin.from_goal
  pub bridge : IsBridge (setup_of scene) (state_of_grown twin.from_start) (state_of_grown twin.from_goal) twin.bridge

-- how a fault is shown
abbrev pub fault_message : TwinFault → List ℕ
fault_message faults.GoalBlocked = codes "the middle of the first goal is not clear"
fault_message faults.Memory = codes "out of memory"

-- ---- The report of two trees: the path over the bridge, and the counts of each.
-- two points are the same
abbrev pub is_same_point : Point → Point → Bool
is_same_point p q = (p.x == q.x) && (p.y == q.y)

-- the way from a node back to the start of its tree
abbrev pub way_back : TreeState → ℕ → List Point
way_back state n = map (point_of state.points) (chain_in state n)

-- points that follow a point: without the first one, if it is that point
abbrev pub path_after : Point → List Point → List Point
path_after p [] = []
path_after p (q ∷ way) = if is_same_point p q then way else (q ∷ way)

-- The path over a bridge: from the start of one tree to node a, and from node b of the other back to where that began. A point that both share is there once.
abbrev pub joined_path : TreeState → TreeState → ℕ → ℕ → List Point
joined_path one other a b = path_to one a ++ path_after (point_of one.points a) (way_back other b)

-- the lines of the path over the bridge, or that there is none
abbrev pub bridge_lines : TreeState → TreeState → Option (ℕ × ℕ) → List ℕ
bridge_lines one other None = no_path_line
bridge_lines one other (Some pair) =
    path_line (joined_path one other pair.0 pair.1) (cost_over one other pair.0 pair.1) ++ point_lines (joined_path one other pair.0 pair.1)

-- the counts of a run
abbrev pub run_counts : Grown → List ℕ
run_counts grown = counts_line grown.task.scene grown.limit (state_of_grown grown)

-- The report: the path over the bridge, and the counts of the run from the start and of the run from the goal, each after its word.
abbrev pub twin_text : Twin → List ℕ
twin_text twin =
    (((bridge_lines (state_of_grown twin.from_start) (state_of_grown twin.from_goal) twin.bridge ++ codes "start ") ++ run_counts twin.from_start)
    ++ codes "goal ") ++ run_counts twin.from_goal
