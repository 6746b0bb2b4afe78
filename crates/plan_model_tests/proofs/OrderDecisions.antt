-- Decisions of the order law in an empty room.
use Rattle.plan_model_tests.proofs.Words.{◌≡◌, ℕ, suc, ◌+◌, ◌*◌, ◌<◌, ◌≤◌, Option, List, length, ap, arith, is_some, IsPresent-below, AreInRoom-from_clear}
use Rattle.plan_model_tests.proofs.Words.{Clear-empty_room, IsInRoom-from_clear_at, Clear-first, ConfigurationSpace, Point, squared_distance, Hangs, HangsBelow}
use Rattle.plan_model_tests.proofs.Words.{IsAllowedEdge, KeepsOrder, most_cost_of, Setup, mark_at, Clear, ClearAt, IsInRoom, empty_room, AreDistinct, IsPresent}
use Rattle.plan_model_tests.proofs.Words.{StandsAt, node_count, point_at, point_of, TreeState, IsReached, true, false}
use Rattle.plan_model_tests.proofs.Decisions.{are_equal, as_of, both, denied, each_below, each_of, given, implied, in_option, is_at_most}
use Rattle.plan_model_tests.proofs.Decisions.{holds, is_point, is_true, like, refuted, shown, some_below}
use Rattle.plan_model_tests.proofs.ComputedCosts.{cost-is, cost}

-- ---- points
pub StandsAt-below : (points : List (Option Point)) (i : ℕ) (p : Point) → StandsAt points i p → i < length points
StandsAt-below points i p h = IsPresent-below points i (ap is_some h)

pub IsPresent-before : (points : List (Option Point)) (n : ℕ) → IsPresent points (suc n) → n < length points
IsPresent-before points n h = omega (arith, IsPresent-below points (suc n) h)

abbrev pub are_distinct : (points : List (Option Point)) → Dec (AreDistinct points)
are_distinct points =
    like (λ f i j p a b. f i (StandsAt-below points i p a) j (StandsAt-below points j p b) p a b) (λ g i _ j _ p a b. g i j p a b)
    (each_below (λ i. (j : ℕ) → j < length points → (p : Point) → StandsAt points i p → StandsAt points j p → i ≡ j)
    (λ i. each_below (λ j. (p : Point) → StandsAt points i p → StandsAt points j p → i ≡ j)
    (λ j. in_option (λ p. StandsAt points j p → i ≡ j) (point_at points i) (λ p. implied (is_point (point_at points j) p) (are_equal i j)))
    (length points)) (length points))

pub reached-by : (k n : ℕ) → n ≤ suc k → n < suc (suc k)
reached-by k n h = omega (arith, h)

pub by-reached : (k n : ℕ) → n < suc (suc k) → n ≤ suc k
by-reached k n h = omega (arith, h)

abbrev pub is_reached : (marks : List Point) (points : List (Option Point)) (k : ℕ) → Dec (IsReached marks points k)
is_reached marks points k =
    like (λ h. (h.0, by-reached k h.0 h.1, h.2)) (λ h. (h.0, reached-by k h.0 h.1, h.2))
    (some_below (λ n. StandsAt points n (mark_at marks k)) (λ n. is_point (point_at points n) (mark_at marks k)) (suc (suc k)))

pub reached : (marks : List Point) (points : List (Option Point)) (k : ℕ) → holds (is_reached marks points k) ≡ true → IsReached marks points k
reached marks points k = shown (is_reached marks points k)

pub unreached : (marks : List Point) (points : List (Option Point)) (k : ℕ) → holds (is_reached marks points k) ≡ false → ¬ IsReached marks points k
unreached marks points k = refuted (is_reached marks points k)

-- what is said of each present node
abbrev pub of_nodes : (P : ℕ → Type 0) (points : List (Option Point)) → ((n : ℕ) → Dec (P n)) → Dec ((n : ℕ) → IsPresent points n → P n)
of_nodes P points test =
    each_of (IsPresent points) P (length points) (IsPresent-below points) (λ n. implied (is_true (is_some (point_at points n))) (test n))

-- what is said of each present node but the start
abbrev pub of_later_nodes : (P : ℕ → Type 0) (points : List (Option Point)) → ((n : ℕ) → Dec (P n)) → Dec ((n : ℕ) → IsPresent points (suc n) → P n)
of_later_nodes P points test =
    each_of (λ n. IsPresent points (suc n)) P (length points) (IsPresent-before points) (λ n. implied (is_true (is_some (point_at points (suc n)))) (test n))

-- ---- empty rooms
abbrev pub is_in_room : (room p : Point) → Dec (IsInRoom room p)
is_in_room room p =
    like (λ h. record { horizontal = h.0; vertical = h.1 }) (λ h. (h.horizontal, h.vertical)) (both (is_at_most p.x room.x) (is_at_most p.y room.y))

abbrev pub is_clear : (room a b : Point) → Dec (Clear (empty_room room) a b)
is_clear room a b =
    like (λ h. Clear-empty_room room a b h.0 h.1) (λ h. let ends = AreInRoom-from_clear (empty_room room) a b h in (ends.first, ends.last))
    (both (is_in_room room a) (is_in_room room b))

abbrev pub is_clear_at : (room p : Point) → Dec (ClearAt (empty_room room) p)
is_clear_at room p =
    like (λ h. Clear-first (empty_room room) p p (Clear-empty_room room p p h h)) (IsInRoom-from_clear_at (empty_room room) p) (is_in_room room p)

-- ---- the order law
-- which segments are clear
abbrev pub Clears : ConfigurationSpace → Type 0
Clears space = (a b : Point) → Dec (Clear space a b)

module _ (setup : Setup) (clears : Clears setup.space) where
  abbrev pub is_allowed : (a b : Point) → Dec (IsAllowedEdge setup a b)
  is_allowed a b =
      like (λ h. record { clear = h.0; short = h.1 }) (λ h. (h.clear, h.short))
      (both (clears a b) (is_at_most (squared_distance a b) (setup.step * setup.step)))

  module _ (state : TreeState) where
    abbrev pub hangs : (n : ℕ) (p : Point) (parent most : ℕ) → Dec (Hangs setup state n p parent most)
    hangs n p parent most =
        given (is_true (is_some (point_at state.points parent))) (λ h. h.present) (λ a.
        given (denied (are_equal parent n)) (λ h. h.other) (λ b.
        given (is_allowed (point_of state.points parent) p) (λ h. h.edge) (λ c.
        given
        (as_of (λ c. state.cost parent + c ≤ most) (cost-is (point_of state.points parent) p)
        (is_at_most (state.cost parent + cost (point_of state.points parent) p) most)) (λ h. h.above) (λ d.
        yes (record { present = a; other = b; edge = c; above = d })))))

    abbrev pub hangs_below : Dec ((n : ℕ) → IsPresent state.points (suc n) → HangsBelow setup state (suc n))
    hangs_below =
        of_later_nodes (λ n. HangsBelow setup state (suc n)) state.points
        (λ n. hangs (suc n) (point_of state.points (suc n)) (state.parent (suc n)) (state.cost (suc n)))

    abbrev pub keeps_order : Dec (ClearAt setup.space setup.start) → Dec (KeepsOrder setup state)
    keeps_order start_clear =
        given (are_distinct state.points) (λ h. h.distinct) (λ a.
        given (is_point (point_at state.points 0) setup.start) (λ h. h.start_stands) (λ b.
        given start_clear (λ h. h.start_clear) (λ c.
        given (are_equal (state.parent 0) 0) (λ h. h.start_parent) (λ d.
        given (are_equal (state.cost 0) 0) (λ h. h.start_cost) (λ e.
        given hangs_below (λ h. h.hangs) (λ f.
        given
        (of_nodes (λ n. state.cost n ≤ most_cost_of setup (node_count state.points)) state.points
        (λ n. is_at_most (state.cost n) (most_cost_of setup (node_count state.points)))) (λ h. h.bounded) (λ g.
        yes (record { distinct = a; start_stands = b; start_clear = c; start_parent = d; start_cost = e; hangs = f; bounded = g }))))))))
