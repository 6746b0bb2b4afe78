use Rattle.shared_tree_tests.proofs.Words.{◌≡◌, true, arith, refl, ap, inr, IsAllowedEdge, begins, goes_on, at, Point}
use Rattle.shared_tree_tests.proofs.SmallRuns.MarkEdge.{bound, clear, edge}
use Rattle.shared_tree_tests.proofs.Words.{best_word, no_best, setup_in, small_run}
use Rattle.grown_runs.specs.Table.WordPlaces.{word_at}
use Rattle.shared_tree_tests.proofs.worlds.vectors.allowed_steps.Goals as goal

allowed : IsAllowedEdge (setup_in small_run) (at 5 5) (at 8 9)
allowed = record { clear = clear; short = omega arith }

pub returns : goal.returns
unfolding word_at
returns c = record {
  loads_the_count = tt;
  loads_a_counter = omega arith;
  loads_a_point = inr (0, true, refl);
  loads_a_child = inr (0, true, refl);
  loads_the_other_child = inr (0, true, refl);
  loads_a_tree_word = inr (0, true, refl);
  steers_to_the_mark = record { from = at 5 5; seen = refl; reached = refl };
  hangs_below_the_start = record {
    below = record {
      from = at 5 5;
      parent_cost = 0;
      seen = record { stands = refl; written = omega arith; cost_is = refl };
      edge = allowed;
      cost_is = omega (arith, edge);
    };
    nearest_at = at 5 5;
    nearest_cost = 0;
    nearest = record { stands = refl; written = omega arith; cost_is = refl };
    chosen = omega (arith, edge);
  };
  lowers_by_one = record {
    at = at 8 9;
    old_cost = 1281;
    seen = record { stands = refl; written = omega arith; cost_is = refl };
    below = record {
      from = at 5 5;
      parent_cost = 0;
      seen = record { stands = refl; written = omega arith; cost_is = refl };
      edge = allowed;
      cost_is = omega (arith, edge);
    };
    cheaper = omega arith;
  };
  leads_to_the_right = record {
    depth = 0;
    at = at 5 5;
    on_way = begins;
    stands = refl;
    apart = λ e. (let x : 5 ≡ 8 = ap (λ (r : Point). r.x) e in omega (arith, x));
    side_is = refl;
  };
  leads_to_a_place_below = record {
    depth = 1;
    at = at 8 9;
    on_way = goes_on 0 0 1 (at 5 5) begins refl (λ e. (let y : 5 ≡ 9 = ap (λ (r : Point). r.y) e in omega (arith, y))) refl;
    stands = refl;
    apart = λ e. (let x : 8 ≡ 5 = ap (λ (r : Point). r.x) e in omega (arith, x));
    side_is = refl;
  };
  placed_when_counted = record { linked = refl; counted = refl };
  blocked_when_claimed = record { linked = refl; counted = refl };
  same_when_treed = record { linked = refl; counted = refl };
  skipped_when_claimed = record { linked = refl; counted = refl };
  posts_a_goal_node = record { part = omega arith; goal = refl; written = omega arith };
  skips_by_a_path_at_the_bound = record {
    claimed = refl;
    word = best_word 1280 1;
    taken = refl;
    some_node = λ e. omega (arith, e);
    node = refl;
    within = omega (arith, bound);
  };
  goes_on_past_the_bound = λ informed. (best_word 1281 1, refl, λ some_node. omega (arith, bound));
  goes_on_with_no_best = λ informed. (no_best, refl, λ some_node. absurd (some_node refl));
  goes_on_where_none_is_skipped = λ informed. absurd (informed refl);
}
