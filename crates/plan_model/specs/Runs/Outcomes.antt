-- Which outcome a mark had; and what a record of an unplaced mark has.
use Rattle.std.specs.Prelude.{ℕ, ◌==◌, ◌&&◌, Bool, true, false}
use Rattle.plan_model.specs.Terms.{Blocked, Outcome, Placed, Same, Skipped}

-- a node was placed for the mark
abbrev pub is_placed : Outcome → Bool
is_placed Placed = true
is_placed outcome = false

-- the mark ended where a node stood already
abbrev pub is_same : Outcome → Bool
is_same (Same j) = true
is_same outcome = false

-- the segment to where the mark ended was not clear
abbrev pub is_blocked : Outcome → Bool
is_blocked Blocked = true
is_blocked outcome = false

-- no way over the mark could be cheaper than one that was known
abbrev pub is_skipped : Outcome → Bool
is_skipped Skipped = true
is_skipped outcome = false

-- only a placed mark has a first parent, a first cost and a class; otherwise all three are 0
abbrev pub is_zero_unless_placed : Outcome → ℕ → ℕ → ℕ → Bool
is_zero_unless_placed Placed parent cost class = true
is_zero_unless_placed outcome parent cost class = parent == 0 && (cost == 0 && class == 0)
