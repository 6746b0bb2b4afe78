use Rattle.plan_model_tests.proofs.Words.{◌≡◌, Some, arith, refl, ap, ◌≢◌, Point, goes_right, IsOnWay, begins, goes_on, at, three_children, way_stops}
use Rattle.plan_model.specs.Vectors.SeenTrees.{three_points}
use Rattle.plan_model_tests.proofs.vectors.ways.Goals as goal

other_row : (p q : Point) → p.y ≢ q.y → p ≢ q
other_row p q apart e = apart (ap (λ (r : Point). r.y) e)

-- the ways of points to the right of node 0
to_node_1 : (q : Point) → at 5 5 ≢ q → three_children 0 (goes_right 0 (at 5 5) q) ≡ Some 1 → IsOnWay three_children three_points q 1 1
to_node_1 q other link = goes_on 0 0 1 (at 5 5) begins refl other link

pub returns : goal.returns
returns c = record {
  lesser_column = refl;
  same_column = refl;
  lesser_row = refl;
  same_row = refl;
  columns_again = refl;
  to_node_0 = begins;
  to_node_1 = to_node_1 (at 5 3) (other_row (at 5 5) (at 5 3) (λ e. omega (arith, e))) refl;
  to_node_2 =
      goes_on 1 1 2 (at 5 3) (to_node_1 (at 9 2) (other_row (at 5 5) (at 9 2) (λ e. omega (arith, e))) refl) refl
      (other_row (at 5 3) (at 9 2) (λ e. omega (arith, e))) refl;
  stops = λ m.
      way_stops three_children three_points (at 5 3) 1 1 (to_node_1 (at 5 3) (other_row (at 5 5) (at 5 3) (λ e. omega (arith, e))) refl) refl 2 m (omega arith);
  ends_at_once = record { on_way = begins; stands = refl; other = other_row (at 5 5) (at 4 3) (λ e. omega (arith, e)); empty = refl };
  ends_beside_a_child = record {
    on_way = to_node_1 (at 9 9) (other_row (at 5 5) (at 9 9) (λ e. omega (arith, e))) refl;
    stands = refl;
    other = other_row (at 5 3) (at 9 9) (λ e. omega (arith, e));
    empty = refl;
  };
  ends_at_a_leaf = record {
    on_way =
        goes_on 1 1 2 (at 5 3) (to_node_1 (at 8 1) (other_row (at 5 5) (at 8 1) (λ e. omega (arith, e))) refl) refl
        (other_row (at 5 3) (at 8 1) (λ e. omega (arith, e))) refl;
    stands = refl;
    other = other_row (at 9 2) (at 8 1) (λ e. omega (arith, e));
    empty = refl;
  };
}
