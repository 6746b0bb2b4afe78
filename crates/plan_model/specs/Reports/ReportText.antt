-- The report of a run, as text: lines of words and decimal numbers, each ended by a line feed.
use Rattle.std.specs.Prelude.{ℕ, suc, Bool, true, false, Option, Some, None, List, [], ◌∷◌, ◌++◌, length, map, reverse, flat_map, codes, decimal}
use Rattle.plan_model.specs.Terms.{Point, join_with_byte, range_with_len}
use Rattle.plan_model.specs.declared.scenes.Scene.{Scene}
use Rattle.plan_model.specs.declared.records.Record.{Record}
use Rattle.plan_model.specs.Runs.Endings.{Reached, NewNode, SameNode, NoWay, Ending, Steered, SkippedBy, ending_of}
use Rattle.plan_model.specs.Runs.Outcomes.{is_placed, is_same, is_blocked, is_skipped}
use Rattle.plan_model.specs.Trees.NodeLists.{point_at, point_of, node_count}
use Rattle.plan_model.specs.Trees.TreeStates.{TreeState, chain_in, sum_in}
use Rattle.plan_model.specs.Runs.ClosedLaw.{outcome_count}
use Rattle.plan_model.specs.Trees.BestNode.{best_node, goals_of}

-- words with a space between two of them, and a line feed
abbrev pub line : List (List ℕ) → List ℕ
line words = join_with_byte 32 words ++ 10 ∷ []

-- ---- the path
-- how many points a path has, and what it costs
abbrev pub path_line : List Point → ℕ → List ℕ
path_line path cost = line (codes "path" ∷ decimal (length path) ∷ codes "cost" ∷ decimal cost ∷ [])

-- the line of a tree without a node in the goal
abbrev pub no_path_line : List ℕ
no_path_line = line (codes "no" ∷ codes "path" ∷ [])

-- the line of one point of the path
abbrev pub point_line : Point → List ℕ
point_line p = line (decimal p.x ∷ decimal p.y ∷ [])

-- a line for each point
abbrev pub point_lines : List Point → List ℕ
point_lines path = flat_map point_line path

-- the path from the start to a node
abbrev pub path_to : TreeState → ℕ → List Point
path_to state n = map (point_of state.points) (reverse (chain_in state n))

-- the first line of a report, by its best node
abbrev pub head_line : TreeState → Option ℕ → List ℕ
head_line state None = no_path_line
head_line state (Some n) = path_line (path_to state n) (sum_in state n)

-- the points of the best path, if there is one
abbrev pub best_path : TreeState → Option ℕ → List Point
best_path state None = []
best_path state (Some n) = path_to state n

-- ---- the counts
-- how many of the marks below the limit were skipped, in words, if the scene is informed
abbrev pub skipped_words : Bool → ℕ → (ℕ → Option Record) → List (List ℕ)
skipped_words false limit record_of = []
skipped_words true limit record_of = codes "skipped" ∷ decimal (outcome_count record_of limit is_skipped) ∷ []

-- How many nodes are present, and how many of the marks below the limit were placed, on a node already, and blocked, and in an informed
-- scene skipped.
abbrev pub counts_line : Scene → ℕ → TreeState → List ℕ
counts_line scene limit state = line (
    codes "nodes" ∷ decimal (node_count state.points) ∷ codes "placed" ∷ decimal (outcome_count state.record_of limit is_placed)
    ∷ codes "same" ∷ decimal (outcome_count state.record_of limit is_same)
    ∷ codes "blocked" ∷ decimal (outcome_count state.record_of limit is_blocked) ∷ skipped_words scene.informed limit state.record_of)

-- ---- nodes and marks
-- node n at p with its parent and its sum
abbrev pub node_line : TreeState → ℕ → Point → List ℕ
node_line state n p = line (codes "node" ∷ decimal n ∷ codes "at" ∷ decimal p.x ∷ decimal p.y
    ∷ codes "parent" ∷ decimal (state.parent n) ∷ codes "cost" ∷ decimal (sum_in state n) ∷ [])

-- the line of a node, if it is present
abbrev pub node_line_if_present : TreeState → ℕ → Option Point → List ℕ
node_line_if_present state n None = []
node_line_if_present state n (Some p) = node_line state n p

-- a line for each node from 0 to the limit that is present
abbrev pub node_lines : ℕ → TreeState → List ℕ
node_lines limit state = flat_map (λ n. node_line_if_present state n (point_at state.points n)) (range_with_len 0 (suc limit))

-- what came of the point to which the nearest node of a mark steered, in words
abbrev pub reached_words : Reached → List (List ℕ)
reached_words (NewNode first) = codes "placed" ∷ codes "class" ∷ decimal first.class ∷ codes "first" ∷ decimal first.parent ∷ decimal first.cost ∷ []
reached_words (SameNode j) = codes "same" ∷ decimal j ∷ []
reached_words NoWay = codes "blocked" ∷ []

-- what became of a mark, in words, after its turn
abbrev pub ending_words : Ending → List (List ℕ)
ending_words (Steered nearest reached) = codes "nearest" ∷ decimal nearest ∷ reached_words reached
ending_words (SkippedBy goal_node) = codes "skipped" ∷ codes "by" ∷ decimal goal_node ∷ []

-- mark k and its record
abbrev pub mark_line : ℕ → Record → List ℕ
mark_line k entry = line (
    (codes "mark" ∷ decimal k ∷ codes "worker" ∷ decimal entry.worker ∷ codes "turn" ∷ decimal entry.turn ∷ [])
    ++ ending_words (ending_of entry))

-- the line of a mark, if it has a record
abbrev pub mark_line_if_recorded : ℕ → Option Record → List ℕ
mark_line_if_recorded k None = []
mark_line_if_recorded k (Some entry) = mark_line k entry

-- a line for each mark below the limit that has a record
abbrev pub mark_lines : ℕ → TreeState → List ℕ
mark_lines limit state = flat_map (λ k. mark_line_if_recorded k (state.record_of k)) (range_with_len 0 limit)

-- ---- the reports
-- The short report: the best path, or that there is none, and the counts.
abbrev pub short_report : Scene → ℕ → TreeState → List ℕ
short_report scene limit state =
    (head_line state (best_node (goals_of scene) limit state) ++ point_lines (best_path state (best_node (goals_of scene) limit state)))
    ++ counts_line scene limit state

-- The full report: the short one, and then a line for each node that is present and for each mark.
abbrev pub full_report : Scene → ℕ → TreeState → List ℕ
full_report scene limit state = (short_report scene limit state ++ node_lines limit state) ++ mark_lines limit state

-- the report, short or full
abbrev pub report_text : Bool → Scene → ℕ → TreeState → List ℕ
report_text false scene limit state = short_report scene limit state
report_text true scene limit state = full_report scene limit state

-- the short report without the lines of its path's points
abbrev pub summary : Scene → ℕ → TreeState → List ℕ
summary scene limit state = head_line state (best_node (goals_of scene) limit state) ++ counts_line scene limit state
