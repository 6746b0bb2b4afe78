-- What became of a mark, each outcome with fields of its own; and the record that says so.
use Rattle.plan_model.specs.Terms.{Blocked, IsTrue, Outcome, Placed, Same, Skipped, refl, ℕ}
use Rattle.plan_model.specs.declared.records.Record.{Record}
use Rattle.plan_model.specs.Runs.Outcomes.{is_zero_unless_placed}

-- what a placed node was given first: its parent, its cost, and the class of the number of nodes that its worker counted
pub record FirstHanging : Type 0 where
  pub parent : ℕ
  pub cost : ℕ
  pub class : ℕ

-- what came of the point to which the nearest node of a mark steers: a node was placed there, one stood there already, or no clear way leads there
pub data Reached : Type 0 where
  NewNode : (first : FirstHanging) → Reached
  SameNode : (node : ℕ) → Reached
  NoWay : Reached

-- what became of a mark: its nearest node steered to it, and this came of it; or it was skipped by a goal node
pub data Ending : Type 0 where
  Steered : (nearest : ℕ) (reached : Reached) → Ending
  SkippedBy : (goal_node : ℕ) → Ending

-- ---- from the record
-- what the node of a placed mark was given first
abbrev pub first_hanging : Record → FirstHanging
first_hanging entry = record { parent = entry.first_parent; cost = entry.first_cost; class = entry.class }

-- what became of the mark of a record, if this was its outcome
abbrev pub ending_as : Record → Outcome → Ending
ending_as entry Placed = Steered entry.nearest (NewNode (first_hanging entry))
ending_as entry (Same j) = Steered entry.nearest (SameNode j)
ending_as entry Blocked = Steered entry.nearest NoWay
ending_as entry Skipped = SkippedBy entry.nearest

abbrev pub ending_of : Record → Ending
ending_of entry = ending_as entry entry.outcome

-- ---- and back
-- three zeros go with any outcome
abbrev pub zeros : (outcome : Outcome) → IsTrue (is_zero_unless_placed outcome 0 0 0)
zeros Placed = refl
zeros (Same j) = refl
zeros Blocked = refl
zeros Skipped = refl

-- the record of a mark for which no node is placed, by its worker, the worker's turn, the nearest node and the outcome
abbrev pub unplaced_record : ℕ → ℕ → ℕ → Outcome → Record
unplaced_record worker turn nearest outcome =
    record { worker = worker; turn = turn; nearest = nearest; outcome = outcome; first_parent = 0; first_cost = 0; class = 0; unplaced = zeros outcome }

-- the record of a mark that this worker handled in this turn, by what became of it
abbrev pub record_of_ending : ℕ → ℕ → Ending → Record
record_of_ending worker turn (Steered nearest (NewNode first)) = record {
  worker = worker;
  turn = turn;
  nearest = nearest;
  outcome = Placed;
  first_parent = first.parent;
  first_cost = first.cost;
  class = first.class;
  unplaced = refl;
}
record_of_ending worker turn (Steered nearest (SameNode j)) = unplaced_record worker turn nearest (Same j)
record_of_ending worker turn (Steered nearest NoWay) = unplaced_record worker turn nearest Blocked
record_of_ending worker turn (SkippedBy g) = unplaced_record worker turn g Skipped
