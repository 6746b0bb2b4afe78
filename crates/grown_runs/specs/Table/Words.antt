-- Points, parents with their costs, and records as 64-bit words: bit 63 set, and each field times the power of 2 at which
-- it stands. The best cost with its goal node is one without bit 63. What a word reads as: each field by division and remainder.
use Rattle.std.specs.Prelude.{◌≡◌, ℕ, zero, suc, ◌+◌, ◌-◌, ◌*◌, ◌/◌, ◌%◌, ◌^◌, ◌<◌, ◌≤◌, ◌==◌, nat_lt, if◌then◌else◌, Option, Some, None}
use Rattle.grown_runs.specs.Terms.{Blocked, NewNode, Outcome, Placed, Point, Record, Same, Skipped, Steered, record_of_ending, unplaced_record}

-- a word holds its value once bit 63 is set, and nothing before
abbrev pub if_written : {A : Type 0} → ℕ → A → Option A
if_written word value = if nat_lt word (2 ^ 63) then None else Some value

-- ---- points
-- a point as a word: y above the 20 bits of x
abbrev pub point_word : Point → ℕ
point_word p = 2 ^ 63 + p.y * 2 ^ 20 + p.x

-- the point in a word: each coordinate by its 20 bits
abbrev pub point_in : ℕ → Point
point_in word = record { x = word % 2 ^ 20; y = word / 2 ^ 20 % 2 ^ 20 }

-- the point that a word holds
abbrev pub point_of_word : ℕ → Option Point
point_of_word word = if_written word (point_in word)

-- ---- parents and costs
-- a parent and a cost as a word: the cost above the 18 bits of the parent
abbrev pub tree_word : ℕ → ℕ → ℕ
tree_word parent cost = 2 ^ 63 + cost * 2 ^ 18 + parent

-- the parent in a tree word or a first word: its lowest 18 bits
abbrev pub parent_in : ℕ → ℕ
parent_in word = word % 2 ^ 18

-- the cost in it: 44 bits from bit 18 on
abbrev pub cost_in : ℕ → ℕ
cost_in word = word / 2 ^ 18 % 2 ^ 44

-- the parent and the cost that a word holds
abbrev pub tree_of_word : ℕ → Option (ℕ × ℕ)
tree_of_word word = if_written word (parent_in word, cost_in word)

-- ---- the best cost
-- the best word while no goal node is known
abbrev pub no_best : ℕ
no_best = 2 ^ 64 - 1

-- the cost of a goal node as the best word: the cost above the 18 bits of the node, so that a lesser pair is a lesser number
abbrev pub best_word : ℕ → ℕ → ℕ
best_word cost node = cost * 2 ^ 18 + node

-- the goal node in it
abbrev pub best_node_in : ℕ → ℕ
best_node_in word = word % 2 ^ 18

-- the cost in it
abbrev pub best_cost_in : ℕ → ℕ
best_cost_in word = word / 2 ^ 18

-- the goal node and the cost that the best word holds
abbrev pub best_of_word : ℕ → Option (ℕ × ℕ)
best_of_word word = if word == no_best then None else Some (best_node_in word, best_cost_in word)

-- ---- records
-- the last field of a record's word: the class of a placed mark, the node of one that ended at a node, 0 of a blocked or a skipped one
abbrev pub last_field : Outcome → ℕ → ℕ
last_field Placed class = class
last_field (Same j) class = j
last_field outcome class = 0

-- the number of an outcome
abbrev pub number_of_outcome : Outcome → ℕ
number_of_outcome Placed = 0
number_of_outcome (Same j) = 1
number_of_outcome Blocked = 2
number_of_outcome Skipped = 3

-- a record as a word, without its first parent and first cost
abbrev pub record_word : Record → ℕ
record_word entry = 2 ^ 63 + last_field entry.outcome entry.class * 2 ^ 44 + number_of_outcome entry.outcome * 2 ^ 42 + entry.nearest * 2 ^ 24
    + entry.turn * 2 ^ 6 + entry.worker

-- each field of the record fits its part of the word
pub record FitsWord (entry : Record) : Type 0 where
  pub worker : entry.worker < 2 ^ 6
  pub turn : entry.turn < 2 ^ 18
  pub nearest : entry.nearest < 2 ^ 18
  pub last : last_field entry.outcome entry.class < 2 ^ 18

-- Beside this first word the record's word is whole: if a node was placed, its first word has the first parent and the
-- first cost of the record. Both fit their parts of it.
pub record IsFirstWord (entry : Record) (first : ℕ) : Type 0 where
  pub word : entry.outcome ≡ Placed → first ≡ tree_word entry.first_parent entry.first_cost
  pub parent : entry.first_parent < 2 ^ 18
  pub cost : entry.first_cost < 2 ^ 44

-- the worker in a record's word: its lowest 6 bits
abbrev pub worker_in : ℕ → ℕ
worker_in word = word % 2 ^ 6

-- the turn: 18 bits from bit 6 on
abbrev pub turn_in : ℕ → ℕ
turn_in word = word / 2 ^ 6 % 2 ^ 18

-- the nearest node: 18 bits from bit 24 on
abbrev pub nearest_in : ℕ → ℕ
nearest_in word = word / 2 ^ 24 % 2 ^ 18

-- the number of the outcome: bits 42 and 43
abbrev pub outcome_in : ℕ → ℕ
outcome_in word = word / 2 ^ 42 % 2 ^ 2

-- the last field: 18 bits from bit 44 on
abbrev pub last_in : ℕ → ℕ
last_in word = word / 2 ^ 44 % 2 ^ 18

-- the record of a placed mark in a word: its first parent and first cost are in the first word of its node
abbrev pub placed_in : ℕ → ℕ → Record
placed_in word first = record_of_ending (worker_in word) (turn_in word)
    (Steered (nearest_in word) (NewNode (record { parent = parent_in first; cost = cost_in first; class = last_in word })))

-- the record in a word of a mark of which no node was placed, with this outcome
abbrev pub unplaced_in : ℕ → Outcome → Record
unplaced_in word outcome = unplaced_record (worker_in word) (turn_in word) (nearest_in word) outcome

-- the record in a word, by the number of its outcome: 0 placed, 1 the same point, 2 blocked, 3 skipped
abbrev pub record_in : ℕ → ℕ → ℕ → Record
record_in zero word first = placed_in word first
record_in (suc zero) word first = unplaced_in word (Same (last_in word))
record_in (suc (suc zero)) word first = unplaced_in word Blocked
record_in (suc (suc (suc n))) word first = unplaced_in word Skipped

-- the record that a word holds, with the first word of its node
abbrev pub record_of_word : ℕ → ℕ → Option Record
record_of_word word first = if_written word (record_in (outcome_in word) word first)

-- the word of a record by this worker in this turn, whatever else it says
pub record IsTurnWord (worker turn word : ℕ) : Type 0 where
  pub written : 2 ^ 63 ≤ word
  pub worker_is : worker_in word ≡ worker
  pub turn_is : turn_in word ≡ turn
