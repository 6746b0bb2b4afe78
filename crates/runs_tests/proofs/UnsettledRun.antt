-- A run that is closed and not settled: node 4 was rewired to the start, node 3 to node 4 and node 2 to node 3, and all are kept at more
-- than their costs-to-come, node 4 alone at more than through its parent. With gamma 0 no node is a neighbour, so no record says that they
-- were lowered.
use Rattle.std.proofs.Common.{ℕ, Option, Some, List, [], ◌∷◌, refl}
use Rattle.grown_runs.proofs.Common.{IsClosed, Knot, Point, Record, Setup, TreeState, at, empty_room, placed_record, state_of_lists}
use Rattle.plan_model_tests.proofs.ClosedDecisions.{is_closed}
use Rattle.plan_model_tests.proofs.Decisions.{shown}
use Rattle.plan_model_tests.proofs.OrderDecisions.{is_clear, is_clear_at}

abbrev pub rrt_setup : Setup
rrt_setup = record { space = empty_room (at 100 100); start = at 0 0; step = 50; gamma = 0; goals = [] }

abbrev knot : ℕ → ℕ → ℕ → ℕ → Option Knot
knot x y parent cost = Some (record { point = at x y; parent = parent; cost = cost })

abbrev pub unsettled_knots : List (Option Knot)
unsettled_knots = knot 0 0 0 0 ∷ knot 0 50 0 12800 ∷ knot 40 79 3 25444 ∷ knot 40 30 4 12900 ∷ knot 24 18 0 7780 ∷ []

abbrev first : Record
first = placed_record 0 0 0 12800 1

abbrev second : Record
second = placed_record 1 1 1 25449 2

abbrev third : Record
third = placed_record 2 1 1 24249 2

abbrev fourth : Record
fourth = placed_record 3 3 3 29369 3

abbrev pub unsettled_records : List Record
unsettled_records = first ∷ second ∷ third ∷ fourth ∷ []

-- the marks, each where its node stands
abbrev pub unsettled_marks : List Point
unsettled_marks = at 0 50 ∷ at 40 79 ∷ at 40 30 ∷ at 24 18 ∷ []

abbrev pub unsettled : TreeState
unsettled = state_of_lists unsettled_knots unsettled_records

pub IsClosed-unsettled : IsClosed rrt_setup unsettled_marks 4 unsettled
IsClosed-unsettled =
    shown (is_closed rrt_setup (is_clear (at 100 100)) unsettled unsettled_records refl (is_clear_at (at 100 100) (at 0 0)) unsettled_marks 4) refl
