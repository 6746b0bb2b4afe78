-- What the words of the command line ask for.
use Rattle.std.specs.Prelude.{ℕ, ◌+◌, ◌/◌, max, false, Option, Some, None, option_map, option_and_then, List, [], ◌∷◌}
use Rattle.path_watch.specs.Terms.{Command, MOST_MARKS, MOST_WORKERS, Orders, number_in}
use Rattle.planner.specs.declared.commands.Command.TheVariants as commands

-- the word asks for so many workers
abbrev pub orders_by : List ℕ → Option Orders
orders_by word = option_and_then (λ workers. Some (record { workers = workers; slice = None })) (number_in 1 MOST_WORKERS word)

-- the words ask for so many workers, and for so many marks at a time
abbrev pub orders_by_two : List ℕ → List ℕ → Option Orders
orders_by_two word second =
    option_and_then (λ workers. option_and_then (λ slice. Some (record { workers = workers; slice = Some slice })) (number_in 1 MOST_MARKS second))
    (number_in 1 MOST_WORKERS word)

-- what the words ask for
abbrev pub orders_of : List (List ℕ) → Option Orders
orders_of (word ∷ []) = orders_by word
orders_of (word ∷ second ∷ []) = orders_by_two word second
orders_of words = None

-- a twentieth of so many marks, rounded up, and 1 at least
abbrev pub twentieth : ℕ → ℕ
twentieth marks = max ((marks + 19) / 20) 1

-- how many marks are handled at a time, of so many
abbrev pub slice_by : Option ℕ → ℕ → ℕ
slice_by None marks = twentieth marks
slice_by (Some slice) marks = slice

-- Watching reads and refuses what `plan W` does, and its bytes decide as much.
abbrev pub as_plan : Option Orders → Option Command
as_plan asked = option_map (λ orders. commands.Plan orders.workers false) asked
