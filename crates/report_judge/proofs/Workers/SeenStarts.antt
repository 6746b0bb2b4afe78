-- Before the first turn of a worker stood the start alone.
use Rattle.report_judge.proofs.Words.{◌≡◌, ℕ, zero, suc, ◌-◌, ◌<◌, Bool, true, false, List, length, Option, Some, None, arith, refl, sym, ap, ◌∙◌, count_by}
use Rattle.report_judge.proofs.Words.{option_map, slice_get, range_with_len, true≢false, length-map, Goal, Record, Knot, Twig, is_placed, IsGoalNode, points_of}
use Rattle.report_judge.proofs.Words.{without_costs, TreeState, count-first, count-none, state_of_lists, places_before, is_before, count_before, AreSeen}
use Rattle.report_judge.proofs.Laws.LawfulSheets.{length-without_costs}
use Rattle.report_judge.proofs.Workers.SeenLaws.{not_placed_yet}

-- nothing was placed before the first turn
never_before : (worker : ℕ) (o : Option Record) → places_before worker 0 o ≡ false
never_before worker None = refl
never_before worker (Some other) = not_placed_yet (is_placed other.outcome) other.worker worker other.turn 0 (omega arith)

pub length-points : (knots : List (Option Knot)) → length (points_of (without_costs knots)) ≡ length knots
length-points knots = length-map (without_costs knots) (option_map (λ (node : Twig). node.point)) ∙ length-without_costs knots

module _ (knots : List (Option Knot)) (records : List Record) (worker : ℕ) (some : 0 < length knots) where
  abbrev run : TreeState
  run = state_of_lists knots records

  abbrev before : ℕ → Bool
  before n = is_before worker 0 (slice_get records) n

  pub one_counted : count_before run worker 0 ≡ 1
  one_counted =
      let long : length (points_of (without_costs knots)) ≡ suc (length knots - 1) = omega (arith, length-points knots, some) in
      omega (
        arith,
        ap (λ m. count_by before (range_with_len 0 m)) long,
        count-first before (length knots - 1),
        count-none (λ k. before (suc k)) (length knots - 1) (λ i low. never_before worker (slice_get records i)),
      )

  pub AreSeen-in_goal : (goals : List Goal) → IsGoalNode goals run.points 0 → AreSeen goals run worker 0 (record { nodes = 1; least = Some 0 })
  AreSeen-in_goal goals inside = record {
    counted = sym one_counted;
    least = record { node = 0; before = refl; goal = inside; reached = refl; least = λ i first goal. omega arith };
  }

  none_before : (goals : List Goal) → ¬ IsGoalNode goals run.points 0 → (i : ℕ) → is_before worker 0 (slice_get records) i ≡ true
      → ¬ IsGoalNode goals run.points i
  none_before goals outside zero first goal = outside goal
  none_before goals outside (suc k) first goal = true≢false (sym first ∙ never_before worker (slice_get records k))

  pub AreSeen-no_goal : (goals : List Goal) → ¬ IsGoalNode goals run.points 0 → AreSeen goals run worker 0 (record { nodes = 1; least = None })
  AreSeen-no_goal goals outside = record { counted = sym one_counted; least = none_before goals outside }
