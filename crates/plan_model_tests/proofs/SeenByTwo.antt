-- What two workers have seen of a kd-tree of five nodes is true of the tree, and the one takes it over from the other.
use Rattle.plan_model_tests.proofs.Words.{◌≡◌, ℕ, zero, suc, Bool, true, false, None, refl, option_or, point_at, HasSeenAtLeast, IsTrueOf, seen_whole}
use Rattle.plan_model_tests.proofs.Words.{IsLaterMoment, TakesOver, cheaper_of, at_entry, at_return, of_other, of_both, tree_now, tree_before, four_children}
use Rattle.plan_model_tests.proofs.Words.{five_children, others_children, others_points, IsLaterMoment-takes}
use Rattle.plan_model.specs.Vectors.SeenTrees.{three_points}
use Rattle.plan_model_tests.proofs.Decisions.{refuted, shown}
use Rattle.plan_model_tests.proofs.SeenByOne.{small_entry, small_return}
use Rattle.plan_model_tests.proofs.SightDecisions.{by-numbers, counted, has_seen_at_least, keeps_or_finds_empty, no_records}

-- ---- true of the tree
pub true_now : IsTrueOf at_entry.seen tree_now
true_now = shown (has_seen_at_least at_entry.seen (seen_whole tree_now) small_entry (no_records (λ k. None)) (counted 2 3)) refl

pub true_before : IsTrueOf at_entry.seen tree_before
true_before = shown (has_seen_at_least at_entry.seen (seen_whole tree_before) small_entry (no_records (λ k. None)) (counted 2 3)) refl

-- the cost of node 2 was higher before
pub not_true_yet : ¬ IsTrueOf at_return.seen tree_before
not_true_yet =
    refuted (has_seen_at_least at_return.seen (seen_whole tree_before) small_return (no_records (λ k. None)) (counted 2 3)) refl

-- ---- taken over
children_of_both : (n : ℕ) (side : Bool) → five_children n side ≡ option_or (four_children n side) (others_children n side)
children_of_both zero false = refl
children_of_both zero true = refl
children_of_both (suc zero) false = refl
children_of_both (suc zero) true = refl
children_of_both (suc (suc n)) false = refl
children_of_both (suc (suc n)) true = refl

points_by_both : (n : ℕ) → point_at of_both.seen.points n ≡ option_or (point_at three_points n) (point_at others_points n)
points_by_both =
    by-numbers (λ n. point_at of_both.seen.points n ≡ option_or (point_at three_points n) (point_at others_points n)) (λ n. refl) refl refl refl refl refl refl

pairs_of_both : (n : ℕ) → of_both.seen.parent_and_cost n ≡ cheaper_of (at_return.seen.parent_and_cost n) (of_other.seen.parent_and_cost n)
pairs_of_both =
    by-numbers (λ n. of_both.seen.parent_and_cost n ≡ cheaper_of (at_return.seen.parent_and_cost n) (of_other.seen.parent_and_cost n)) (λ n. refl)
    refl refl refl refl refl refl

pub taken_over : TakesOver at_return of_other.seen of_both
taken_over = record {
  seen = record {
    children = children_of_both;
    points = points_by_both;
    pairs = pairs_of_both;
    records = λ k. refl;
    counters = λ strip. refl;
    count = refl;
  };
  steps = refl;
  found_empty = λ n side. refl;
}

pub later_for_one : IsLaterMoment at_return of_both
later_for_one = IsLaterMoment-takes at_return of_other.seen of_both taken_over

-- step 3 of the first is no step of the other after its step 7
pub not_later_for_other : ¬ IsLaterMoment of_other of_both
not_later_for_other later = refuted (keeps_or_finds_empty of_other of_both 0 false) refl (later.empty 0 false)

pub more_for_other : HasSeenAtLeast of_other.seen of_both.seen
more_for_other =
    shown
    (has_seen_at_least of_other.seen of_both.seen (record { child = λ n side. refl; pairs = λ n. refl }) (no_records (λ k. None)) (counted 3 3))
    refl
