use Rattle.plan_model_tests.proofs.Words.{◌≡◌, ℕ, zero, suc, false, Some, arith, refl, ap, unwrap_or, known, one_record, seen_by, trees_with, placed_by}
use Rattle.plan_model_tests.proofs.Words.{at_entry, at_return, five_points, at, three_children}
use Rattle.plan_model.specs.Vectors.SeenTrees.{three_points}
use Rattle.plan_model_tests.proofs.Decisions.{are_equal, both, either, is_at_most, refuted, shown}
use Rattle.plan_model_tests.proofs.OrderDecisions.{of_nodes}
use Rattle.plan_model_tests.proofs.SightDecisions.{counted, has_seen_at_least, keeps_or_lowers_to}
use Rattle.plan_model_tests.proofs.vectors.seen_at_least.Goals as goal

-- the cost in a pair
cost_in : (pair also : ℕ × ℕ) → Some pair ≡ Some also → pair.1 ≡ also.1
cost_in pair also h = ap (λ o. (unwrap_or {T = ℕ × ℕ} o pair).1) h

agree : (n : ℕ) (pair also : ℕ × ℕ) → at_entry.seen.parent_and_cost n ≡ Some pair → at_return.seen.parent_and_cost n ≡ Some also
    → pair.1 ≡ also.1 → pair ≡ also
agree zero pair also h i e = cc
agree (suc zero) pair also h i e = cc
agree (suc (suc zero)) pair also h i e = absurd (omega (arith, e, cost_in (1, 1568) pair h, cost_in (0, 1280) also i))
agree (suc (suc (suc n))) pair also h i e = cc

pub returns : goal.returns
returns c = record {
  at_lower_cost =
      shown
      (has_seen_at_least known (seen_by three_children three_points (trees_with 0 1567) one_record 2 3)
      (record { child = λ n side. refl; pairs = λ n. refl }) (yes (λ k entry h. h)) (counted 2 2)) refl;
  child_missing = λ h. let e = h.places.children 1 2 false refl in cc;
  point_missing = λ h. let e = h.places.nodes 2 (at 9 2) refl in cc;
  other_parent = λ h. refuted (keeps_or_lowers_to (Some (0, 1568)) (1, 1568)) refl (h.pairs 2 (1, 1568) refl);
  higher_cost = λ h. refuted (keeps_or_lowers_to (Some (1, 1569)) (1, 1568)) refl (h.pairs 2 (1, 1568) refl);
  record_missing = λ h. let e = h.records 0 (placed_by 0 0 0 0 512 1) refl in cc;
  lesser_counter = λ h. omega (arith, h.counters 0);
  lesser_count = λ h. omega (arith, h.count);
  grown = record {
    state = record {
      nodes = λ n p h. h;
      first_costs = shown (of_nodes _ five_points (λ n. are_equal _ _)) refl;
      trees = shown (of_nodes _ five_points (λ n. either (both (are_equal _ _) (are_equal _ _)) (is_at_most _ _))) refl;
      records = λ k entry h. h;
    };
    children = λ n m side h. h;
    counters = λ strip. omega arith;
    count = omega arith;
  };
  agree = agree;
  disagree = λ h. omega (arith, ap (λ (t : ℕ × ℕ). t.0) (h 2 (1, 1568) (0, 1568) refl refl refl));
}
