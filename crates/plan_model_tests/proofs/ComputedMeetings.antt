-- That a body meets an obstacle, by weights of their corners.
use Rattle.plan_model_tests.proofs.Words.{◌≡◌, ℕ, ◌*◌, Option, Some, List, length, refl, sym, subst, true, false, ℤ, pos, ◌+ℤ◌, ◌-ℤ◌, ◌*ℤ◌, ◌≤ℤ◌, T, sum}
use Rattle.plan_model_tests.proofs.Words.{Vertex, IsWithin, Meets, weighted, Rational}
use lib.Signed.{le_z, le_z_yes}
use Rattle.plan_model_tests.proofs.Decisions.{are_equal, by_test, given, if_so, is_at_most}

pub le_z-true : (a b : ℤ) → le_z a b ≡ true → a ≤ℤ b
le_z-true a b e = le_z_yes (subst T (sym e) tt)

pub le_z-false : (a b : ℤ) → le_z a b ≡ false → ¬ (a ≤ℤ b)
le_z-false a b e h = subst T e h.le

abbrev pub is_at_most_whole : (a b : ℤ) → Dec (a ≤ℤ b)
is_at_most_whole a b = by_test (le_z a b) (le_z-true a b) (le_z-false a b)

abbrev pub is_within_of : (distance : ℕ) (a b : ℤ) → Dec (IsWithin distance a b)
is_within_of distance a b =
    given (is_at_most_whole (b -ℤ pos distance) a) (λ h. h.lowest) (λ low.
    given (is_at_most_whole a (b +ℤ pos distance)) (λ h. h.highest) (λ high.
    yes (record { lowest = low; highest = high })))

module _ (clearance : ℕ) (body : List Vertex) (q : Rational) (obstacle : List Vertex) where
  -- by these weights, of which the sum of each list is the total
  abbrev pub met_by : (on_obstacle on_body : List ℕ) → Option (Meets clearance body q obstacle)
  met_by on_obstacle on_body =
      let total = sum on_obstacle in
      if_so (is_at_most 1 total) (λ a.
      if_so (are_equal (length on_obstacle) (length obstacle)) (λ b.
      if_so (are_equal (length on_body) (length body)) (λ c.
      if_so (are_equal (sum on_body) total) (λ d.
      if_so
      (is_within_of (clearance * q.over * total) (pos q.over *ℤ (weighted (λ v. v.x) on_obstacle obstacle -ℤ weighted (λ v. v.x) on_body body))
      (pos total *ℤ q.x)) (λ e.
      if_so
      (is_within_of (clearance * q.over * total) (pos q.over *ℤ (weighted (λ v. v.y) on_obstacle obstacle -ℤ weighted (λ v. v.y) on_body body))
      (pos total *ℤ q.y)) (λ f.
      Some (record {
        total = total;
        on_obstacle = on_obstacle;
        on_body = on_body;
        some_weight = a;
        obstacle_corners = b;
        body_corners = c;
        obstacle_total = refl;
        body_total = d;
        horizontal = e;
        vertical = f;
      })))))))
